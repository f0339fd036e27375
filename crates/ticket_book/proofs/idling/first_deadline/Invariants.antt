use Rattle.std.proofs.Common.{map}
use Rattle.ticket_book.specs.Idling.{NoneFirst}
use Rattle.ticket_book.proofs.idling.first_deadline.Given as goal

abbrev pub invariant-loop-page : goal.invariant-loop-page
invariant-loop-page g l = NoneFirst (map g.P.Paged.page l.pages) l.first l.page-index
