use Rattle.std.proofs.Common.{◌≡◌, ℕ, All, map, take}
use Rattle.waiting_times.specs.Rows.{IsWithin, along}
use Rattle.waiting_times.specs.declared.task_row.TaskRow.{TaskRow}
use Rattle.waiting_times.proofs.waiting.pass_events.Given as goal

abbrev pub invariant-loop-event : goal.invariant-loop-event
invariant-loop-event l = record {
  pids : l.rows.table.pids ≡ l.fn.rows.table.pids;
  rows : (row_of : ℕ → TaskRow) → l.fn.rows.table.rows ≡ map row_of l.fn.rows.table.pids
      → l.rows.table.rows
      ≡ map (λ pid. along pid (take l.event-index l.events) (row_of pid)) l.fn.rows.table.pids;
  within : All (IsWithin l.event-index) l.rows.table.rows;
}
