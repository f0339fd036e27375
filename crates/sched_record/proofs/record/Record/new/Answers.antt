use Rattle.std.proofs.Common.{List, sym, subst}
use Rattle.std.specs.Prelude.{All}
use Rattle.cfs_model.specs.declared.act.Entry.{Entry}
use Rattle.companion_file.specs.Companion.{CompanionView}
use Rattle.companion_file.specs.Order.{IsCompanionInOrder}
use Rattle.companion_file.specs.Seen.{companion_view}
use Rattle.sched_record.specs.Join.{GoTogether, joined_record}
use Rattle.sched_record.specs.Kept.{AreInOrder, IsRecordInOrder}
use Rattle.sched_record.specs.Policies.{EndsAtBirth}
use Rattle.sched_record.proofs.Rising.{started_from}
use Rattle.sched_record.proofs.record.Record.new.Goals as goal

-- what a trace and a companion keep, and that they go together, is what their record keeps
joined_in_order : (events : List Entry) (companion : CompanionView) → IsCompanionInOrder companion → AreInOrder events
    → GoTogether events companion
    → IsRecordInOrder (joined_record events companion)
joined_in_order events companion kept in_order together = record {
  companion = kept;
  events = in_order;
  inside = together.inside;
  started = started_from events companion.start together.in_time in_order.never_falls;
  claimed = together.claimed;
  reniced = together.reniced;
  born = together.born;
  charged = together.charged;
}

pub invariant_of-result : goal.invariant_of-result
invariant_of-result c = record {
  in_order = subst (λ companion. IsRecordInOrder (joined_record c.set_hints.new.self.events companion))
      (sym c.end_spans.ensures.others)
      (subst (λ events. IsRecordInOrder (joined_record events (companion_view c.args.companion))) (sym
      c.set_hints.ensures)
      (joined_in_order c.args.trace.events (companion_view c.args.companion) c.args.companion.in_order
      c.args.trace.in_order c.requires));
  spans_end = subst (λ events. All (EndsAtBirth events) c.end_spans.new.companion.spans) c.events.ensures
      c.end_spans.ensures.ended;
}
