use Rattle.std.proofs.Common.{◌≡◌, map}
use Rattle.tally_laws.specs.Totals.{tallies_below}
use Rattle.ticket_book.specs.Tallying.{with_tallies}
use Rattle.ticket_book.specs.Told.{view_at}
use Rattle.ticket_book.proofs.run_sums.add_pages.Given as goal

abbrev pub invariant-loop-page : goal.invariant-loop-page
invariant-loop-page g l =
    l.sums.table.rows ≡ map (with_tallies (tallies_below (view_at (map g.P.Paged.page l.pages)) l.page-index))
    l.fn.sums.table.rows
