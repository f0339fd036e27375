-- The events so far are those of the first reader and, further down, some of the other's.
use Rattle.std.proofs.Common.{◌≡◌, ◌++◌, map, take}
use Rattle.sched_record.specs.Indices.{AreIndicesOf}
use Rattle.sched_record.specs.ReadLines.{shifted}
use Rattle.sched_record.proofs.trace_reader.TraceReader.with_all_of.Given as goal

abbrev pub invariant-loop-event : goal.invariant-loop-event
invariant-loop-event l = record {
  added : l.entries.items ≡ l.initial.entries.items
      ++ map (shifted l.count) (take l.event-index l.fn.later.entries.items);
  indexed : AreIndicesOf l.entries.items l.indices;
}
