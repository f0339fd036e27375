use Rattle.std.proofs.Common.{map}
use Rattle.sched_record.specs.Record.{record_view}
use Rattle.ticket_book.specs.PageBy.{by_view}
use Rattle.ticket_book.proofs.ByOthers.{AreMade}
use Rattle.ticket_book.proofs.page_by.pages_by.Given as goal

abbrev pub invariant-loop-cpu : goal.invariant-loop-cpu
invariant-loop-cpu l = AreMade l.knobs (record_view l.joined) (map (by_view l.knobs) l.all.items) l.cpu
