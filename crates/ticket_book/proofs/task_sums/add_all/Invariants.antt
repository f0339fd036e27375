use Rattle.std.proofs.Common.{◌≡◌, map, take}
use Rattle.ticket_book.specs.Tallying.{with_tallies}
use Rattle.ticket_book.proofs.task_sums.add_all.Given as goal

abbrev pub invariant-loop-tally : goal.invariant-loop-tally
invariant-loop-tally l = l.sums.table.rows ≡ map (with_tallies (take l.tally-index l.tallies)) l.fn.sums.table.rows
