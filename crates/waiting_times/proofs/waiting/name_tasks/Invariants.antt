use Rattle.std.proofs.Common.{◌≡◌, map, take}
use Rattle.waiting_times.specs.Naming.{births_in, with_pids}
use Rattle.waiting_times.specs.Rows.{fresh}
use Rattle.waiting_times.proofs.waiting.name_tasks.Given as goal

abbrev pub invariant-loop-task : goal.invariant-loop-task
invariant-loop-task l = record {
  pids : l.rows.table.pids ≡ with_pids (map (λ task. task.pid) (take l.task-index l.tasks)) l.fn.rows.table.pids;
  rows : l.fn.rows.table.rows ≡ map (λ _. fresh) l.fn.rows.table.pids
      → l.rows.table.rows ≡ map (λ _. fresh) l.rows.table.pids;
}
