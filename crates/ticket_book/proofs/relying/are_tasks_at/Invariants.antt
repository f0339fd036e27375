use Rattle.std.proofs.Common.{◌≡◌, ◌≤◌, length, take}
use Rattle.replay_model.specs.Cut.{tasks_at}
use Rattle.ticket_book.proofs.relying.are_tasks_at.Given as goal

abbrev pub invariant-loop-task : goal.invariant-loop-task
invariant-loop-task l = record {
  within : l.index ≤ length l.here;
  count : l.index ≡ length (tasks_at l.cpu (take l.task-index l.tasks));
  same : tasks_at l.cpu (take l.task-index l.tasks) ≡ take l.index l.here;
}
