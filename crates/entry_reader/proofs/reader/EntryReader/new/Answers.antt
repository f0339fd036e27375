use Rattle.std.proofs.Common.{[], sym, subst}
use Rattle.sched_record.proofs.Lines.{begins}
use Rattle.sched_record.proofs.Order.{none_kept}
use Rattle.sched_record.specs.ReadLines.{AreKept, AreRead}
use Rattle.entry_reader.proofs.reader.EntryReader.new.Goals as goal

pub returns : goal.returns
returns c = record {
  read = subst (λ es. AreRead [] 0 0 es) (sym c.new.ensures.items) begins;
  kept = subst (λ es. AreKept es 0 0) (sym c.new.ensures.items) none_kept;
}
