use Rattle.runqueue.proofs.EntitiesKept.{waiting_in}
use Rattle.runqueue.proofs.runqueue.Runqueue.waiting.Goals as goal

pub returns : goal.returns
returns c = let q = c.args.self.now in waiting_in q.runner q.tasks q.waiting q.kept
