use Rattle.std.proofs.Common.{◌≡◌, ℕ, map, take}
use Rattle.waiting_times.specs.Rows.{told_of}
use Rattle.waiting_times.specs.declared.task_row.TaskRow.{TaskRow}
use Rattle.waiting_times.proofs.waiting.tell.Given as goal

abbrev pub invariant-loop-index : goal.invariant-loop-index
invariant-loop-index l = (row_of : ℕ → TaskRow) → l.all ≡ map row_of l.pids
    → l.told.items ≡ map (λ pid. told_of l.end pid (row_of pid)) (take l.index l.pids)
