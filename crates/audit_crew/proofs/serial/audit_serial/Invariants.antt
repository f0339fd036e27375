use Rattle.sched_record.specs.Record.{record_view}
use Rattle.ticket_book.specs.BookView.{book_view}
use Rattle.audit_crew.proofs.InTurn.{AreFirst}
use Rattle.audit_crew.proofs.serial.audit_serial.Given as goal

abbrev pub invariant-loop-cpu : goal.invariant-loop-cpu
invariant-loop-cpu l = record { posted : AreFirst l.knobs (record_view l.joined) (book_view l.book) l.cpu }
