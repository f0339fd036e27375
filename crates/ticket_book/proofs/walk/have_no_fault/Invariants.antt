use Rattle.std.proofs.Common.{map}
use Rattle.ticket_book.specs.Walk.{NoneFaulty}
use Rattle.ticket_book.proofs.walk.have_no_fault.Given as goal

abbrev pub invariant-loop-page : goal.invariant-loop-page
invariant-loop-page g l = NoneFaulty (map g.P.Paged.page l.pages) l.page-index
