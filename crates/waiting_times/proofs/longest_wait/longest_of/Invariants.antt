use Rattle.std.proofs.Common.{◌≡◌, take}
use Rattle.waiting_times.specs.Longest.{longest_of}
use Rattle.waiting_times.proofs.longest_wait.longest_of.Given as goal

abbrev pub invariant-loop-task : goal.invariant-loop-task
invariant-loop-task l = l.longest ≡ longest_of (take l.task-index l.tasks)
