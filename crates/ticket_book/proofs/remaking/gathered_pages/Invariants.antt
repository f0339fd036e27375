use Rattle.sched_record.specs.Record.{record_view}
use Rattle.ticket_book.proofs.Gathering.{AreGathered}
use Rattle.ticket_book.proofs.remaking.gathered_pages.Given as goal

abbrev pub invariant-loop-cpu : goal.invariant-loop-cpu
invariant-loop-cpu l =
    AreGathered l.knobs (record_view l.joined) l.fn.slots.items l.left l.pages.items l.cpu l.remade
