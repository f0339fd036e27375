use Rattle.runqueue.proofs.runqueue.Runqueue.runner_row.Goals as goal

pub returns : goal.returns
returns c = c.args.self.now.in_row
