use Rattle.std.proofs.Common.{◌+◌, take, sym, ap, ◌∙◌, subst}
use Rattle.std.specs.Prelude.{All}
use Rattle.companion_file.specs.Companion.{CompanionView}
use Rattle.companion_file.specs.Seen.{companion_view}
use Rattle.companion_file.specs.declared.companion.Companion.{Companion}
use Rattle.sched_record.specs.Join.{NamesBirth}
use Rattle.sched_record.specs.Policies.{EndsAtBirth}
use Rattle.sched_record.proofs.SpanEnds.{ends_born, ends_other}
use Rattle.sched_record.proofs.ending.end_spans.Goals as goal
use Rattle.sched_record.proofs.ending.end_spans.Goals.{in-Some, in_default}

pub loop-event-preserved : goal.loop-event-preserved
loop-event-preserved c =
    let i = c.loop-event.invariant in
    let old = c.loop-event.companion in
    let idles_is = ap (λ (v : CompanionView). v.idles) (i.others ∙ c.forget_ends.ensures.others) in
    let born = subst (All (NamesBirth c.args.events.now)) (sym idles_is) c.requires.born in
    let rise = c.requires.in_order.lines_rise in
    let Ends : Companion → Type 0 =
    λ companion. All (EndsAtBirth (take (c.loop-event.event-index + 1) c.args.events.now)) companion.spans in
    elim c.match-begun.branch [
      | in-Some w ↦ record {
        ended = subst Ends (sym w.companion-is)
            (ends_born c.args.events.now old.idles old.spans w.end_last.new.companion.spans c.loop-event.event-index
            w.in-Some.pid c.event-item.result c.event-item.result rise born old.spans_told c.loop-event-test.true
            (sym c.event-item.is) (sym c.begun.ensures ∙ w.in-Some.is) i.ended w.end_last.ensures.ended);
        others = ap companion_view w.companion-is ∙ w.end_last.ensures.others ∙ i.others;
      }
      | in_default w ↦ record {
        ended = subst Ends (sym w.companion-is)
            (ends_other c.args.events.now old.spans c.loop-event.event-index c.event-item.result c.event-item.result
            rise c.loop-event-test.true (sym c.event-item.is) (sym c.begun.ensures ∙ w.in_default.is) i.ended);
        others = ap companion_view w.companion-is ∙ i.others;
      }
    ]
