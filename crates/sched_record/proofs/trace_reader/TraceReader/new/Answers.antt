use Rattle.std.proofs.Common.{arith}
use Rattle.sched_record.proofs.Order.{none_kept}
use Rattle.sched_record.proofs.Indexing.{none_indexed}
use Rattle.sched_record.proofs.trace_reader.TraceReader.new.Goals as goal

pub invariant_of-result : goal.invariant_of-result
invariant_of-result c =
    rw (c.new.ensures.items, c.new-2.ensures) (record {
      few = omega arith;
      kept = none_kept;
      counted = omega arith;
      indexed = none_indexed;
    })
