use Rattle.std.proofs.Common.{◌≡◌, vec_len}
use Rattle.sched_record.specs.Record.{record_view}
use Rattle.ticket_book.specs.Own.{AreToldOwn}
use Rattle.ticket_book.proofs.owning.own_slots.Given as goal

abbrev pub invariant-loop-cpu : goal.invariant-loop-cpu
invariant-loop-cpu l = record {
  count : vec_len l.own ≡ l.cpu;
  told : AreToldOwn l.knobs (record_view l.joined) l.slots l.own.items;
}
