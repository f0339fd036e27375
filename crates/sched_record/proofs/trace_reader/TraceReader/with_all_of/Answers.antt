use Rattle.std.proofs.Common.{rules}
use Rattle.sched_record.specs.ReadLines.{shifted}
use Rattle.sched_record.proofs.Following.{all_shifted, count_shifted, kept_append, more_shifted, read_append}
use Rattle.sched_record.proofs.Indexing.{indexed_more}
use Rattle.sched_record.proofs.Reader.{where_none}
use Rattle.sched_record.proofs.Rising.{started_from}
use Rattle.sched_record.proofs.trace_reader.TraceReader.with_all_of.Goals as goal

pub loop-event-preserved : goal.loop-event-preserved
loop-event-preserved c =
    let event = c.event-item.result in
    record {
      added = rw c.in_ok-push.ensures.items
          (more_shifted c.args.self.count c.reserve.new.self.items c.loop-event.entries.items c.args.later.entries.items
          _ c.loop-event.event-index event
          c.as_slice-event-items.ensures.value c.loop-event-test.true c.event-item.is c.loop-event.invariant.added);
      indexed = rw c.in_ok-push.ensures.items
          (indexed_more c.loop-event.entries.items c.loop-event.indices c.add_with_hint.new.self
          (shifted c.args.self.count event) _
          c.loop-event.invariant.indexed (search rules)
          c.in_ok-add_with_hint.ensures.added);
    }

pub invariant_of-result : goal.invariant_of-result
invariant_of-result c =
    let self = c.args.self in
    let later = c.args.later in
    let after = started_from later.entries.items self.last c.requires.in_time later.kept.in_order.never_falls in
    let all = all_shifted self.count self.entries.items c.reserve.new.self.items c.loop-event.entries.items
    later.entries.items _ c.loop-event.event-index
    c.as_slice-event-items.ensures.value c.loop-event-test.false c.reserve.ensures.items c.loop-event.invariant.added in
    record {
      few = c.requires.few;
      kept = rw (all, c.max.ensures) (kept_append self.count later.count self.last later.last self.entries.items
          later.entries.items self.kept later.kept after);
      counted = rw all (count_shifted self.count later.count self.entries.items later.entries.items self.counted
          later.counted);
      indexed = c.loop-event.invariant.indexed;
    }

pub returns : goal.returns
returns c lines more read next =
    let self = c.args.self in
    let later = c.args.later in
    let after = started_from later.entries.items self.last c.requires.in_time later.kept.in_order.never_falls in
    let all = all_shifted self.count self.entries.items c.reserve.new.self.items c.loop-event.entries.items
    later.entries.items _ c.loop-event.event-index
    c.as_slice-event-items.ensures.value c.loop-event-test.false c.reserve.ensures.items c.loop-event.invariant.added in
    rw (all, c.max.ensures)
    (read_append lines more self.count later.count self.last later.last self.entries.items later.entries.items
    (where_none _ self.bad c.requires.good read) (where_none _ later.bad c.requires.good_later next) c.requires.few
    self.kept.times after)
