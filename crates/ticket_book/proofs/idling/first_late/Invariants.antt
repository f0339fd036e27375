use Rattle.std.proofs.Common.{map}
use Rattle.ticket_book.specs.Idling.{NoneLate}
use Rattle.ticket_book.proofs.idling.first_late.Given as goal

abbrev pub invariant-loop-cpu : goal.invariant-loop-cpu
invariant-loop-cpu g l = NoneLate (map g.P.Paged.page l.pages) l.time l.cpu
