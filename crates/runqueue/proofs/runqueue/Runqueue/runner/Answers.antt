use Rattle.runqueue.proofs.EntitiesKept.{the_runner}
use Rattle.runqueue.proofs.runqueue.Runqueue.runner.Goals as goal

pub returns : goal.returns
returns c = let q = c.args.self.now in the_runner q.runner q.tasks q.waiting q.floor q.mark q.kept
