use Rattle.std.proofs.Common.{◌≡◌, map, take}
use Rattle.ticket_book.specs.Naming.{with_named}
use Rattle.ticket_book.proofs.run_sums.name_tasks.Given as goal

abbrev pub invariant-loop-task : goal.invariant-loop-task
invariant-loop-task l =
    l.sums.table.rows ≡ with_named (map (λ task. task.pid) (take l.task-index l.tasks)) l.fn.sums.table.rows
