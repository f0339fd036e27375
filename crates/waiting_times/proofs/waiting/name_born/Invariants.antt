use Rattle.std.proofs.Common.{◌≡◌, map, take}
use Rattle.waiting_times.specs.Naming.{births_in, with_pids}
use Rattle.waiting_times.specs.Rows.{fresh}
use Rattle.waiting_times.proofs.waiting.name_born.Given as goal

abbrev pub invariant-loop-event : goal.invariant-loop-event
invariant-loop-event l = record {
  pids : l.rows.table.pids ≡ with_pids (births_in (take l.event-index l.events)) l.fn.rows.table.pids;
  rows : l.fn.rows.table.rows ≡ map (λ _. fresh) l.fn.rows.table.pids
      → l.rows.table.rows ≡ map (λ _. fresh) l.rows.table.pids;
}
