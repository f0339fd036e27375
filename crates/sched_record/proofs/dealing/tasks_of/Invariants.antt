use Rattle.std.proofs.Common.{◌≡◌, take}
use Rattle.replay_model.specs.Cut.{tasks_at}
use Rattle.sched_record.proofs.dealing.tasks_of.Given as goal

abbrev pub invariant-loop-task : goal.invariant-loop-task
invariant-loop-task l = l.here.items ≡ tasks_at l.cpu (take l.task-index l.tasks)
