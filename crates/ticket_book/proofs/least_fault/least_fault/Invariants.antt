use Rattle.cfs_model.specs.Knobs.{KnobsView}
use Rattle.sched_record.specs.Record.{RecordView}
use Rattle.ticket_book.specs.Own.{AreToldOwn}
use Rattle.ticket_book.specs.Relying.{IsLeastFaultLine}
use Rattle.ticket_book.proofs.least_fault.least_fault.Given as goal

abbrev pub invariant-loop-cpu : goal.invariant-loop-cpu
invariant-loop-cpu l =
    (knobs : KnobsView) (r : RecordView) → AreToldOwn knobs r l.slots l.own
    → IsLeastFaultLine knobs r l.slots l.cpu l.least
