use Rattle.std.proofs.Common.{◌≡◌, ℕ, All, map, take}
use Rattle.waiting_times.specs.Rows.{IsWithin, at_start, fresh}
use Rattle.waiting_times.proofs.waiting.put_tasks.Given as goal

abbrev pub invariant-loop-task : goal.invariant-loop-task
invariant-loop-task l = record {
  pids : l.rows.table.pids ≡ l.fn.rows.table.pids;
  rows : l.fn.rows.table.rows ≡ map (λ _. fresh) l.fn.rows.table.pids
      → l.rows.table.rows ≡ map (at_start l.start (take l.task-index l.tasks) fresh) l.fn.rows.table.pids;
  within : (n : ℕ) → All (IsWithin n) l.fn.rows.table.rows → All (IsWithin n) l.rows.table.rows;
}
