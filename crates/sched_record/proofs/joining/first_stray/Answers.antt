use Rattle.std.proofs.Common.{ℕ, sym, ap, ◌∙◌, subst, IsTrue, arith}
use Rattle.cfs_model.specs.declared.act.Entry.{Entry}
use Rattle.sched_record.specs.Join.{is_event_line}
use Rattle.sched_record.proofs.Walk.{above_here, below_end, below_other, event_line_at, no_event_line, on_events_above}
use Rattle.sched_record.proofs.Walk.{on_events_more, passed_more}
use Rattle.sched_record.proofs.joining.first_stray.Goals as goal
use Rattle.sched_record.proofs.joining.first_stray.Goals.{then-index-events-via-then-index-events}
use Rattle.sched_record.proofs.joining.first_stray.Goals.{then-index-events-via-else-index-events+then-events-index}

abbrev line_of_event : Entry → ℕ
line_of_event event = event.line

pub returns-then-index-events-clause-said : goal.returns-then-index-events-clause-said
returns-then-index-events-clause-said g c =
    (c.loop-item.item-index, c.item-item.result, c.loop-item-test.true, sym c.item-item.is, sym c.line-line.ensures)

pub returns-then-index-events-clause-stray : goal.returns-then-index-events-clause-stray
returns-then-index-events-clause-stray g c =
    let line_of = g.T.OnLine.line in
    let index = c.index_from-index.result in
    no_event_line _ _ index c.requires.events_rise
    (above_here line_of_event line_of _ _ c.loop-item.index index c.loop-item.item-index _ _ (c.line-line.ensures
    ∙ ap line_of c.item-item.is)
    c.loop-item-test.true c.loop-item.invariant.passed c.index_from-index.ensures.below)
    (elim c.then-index-events.branch [
      | then-index-events-via-then-index-events w ↦ below_end line_of_event _ _ index
          (omega (arith, w.if-index-events.true))
      | then-index-events-via-else-index-events+then-events-index w ↦
          below_other line_of_event _ _ index _ c.index_from-index.ensures.reached w.if-events-index.true
    ])

pub returns-then-index-events-clause-earlier : goal.returns-then-index-events-clause-earlier
returns-then-index-events-clause-earlier g c k d has less =
    let is = c.line-line.ensures in
    on_events_above g.T.OnLine.line c.args.events.now c.args.items.now c.loop-item.item-index c.item-item.result
    c.requires.items_rise
    c.loop-item-test.true c.item-item.is c.loop-item.invariant.on_events k d has (omega (arith, is, less))

pub loop-item-preserved : goal.loop-item-preserved
loop-item-preserved g c =
    let line_of = g.T.OnLine.line in record {
      within = c.index_from-index.ensures.within.1;
      passed = passed_more line_of_event line_of _ _ c.loop-item.index _ c.loop-item.item-index _ _
          c.requires.items_rise
          (c.line-line.ensures ∙ ap line_of c.item-item.is) c.loop-item-test.true c.loop-item.invariant.passed
          c.index_from-index.ensures.below;
      on_events = on_events_more line_of c.args.events.now c.args.items.now c.loop-item.item-index c.item-item.result
          c.loop-item-test.true
          c.item-item.is c.loop-item.invariant.on_events
          (subst (λ n. IsTrue (is_event_line c.args.events.now n)) c.line-line.ensures
          (event_line_at _ _ c.index_from-index.result _ (omega arith) c.if-events-index.false));
    }

pub returns-clause-none : goal.returns-clause-none
returns-clause-none g c k d has = c.loop-item.invariant.on_events k d (omega (arith, has, c.loop-item-test.false))
