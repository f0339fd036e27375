use Rattle.std.proofs.Common.{◌+◌, List, take, drop, refl, subst}
use Rattle.std.specs.Prelude.{All}
use Rattle.std.proofs.lemmas.Bool.{OnFalse_at, OnTrue_at}
use Rattle.std.proofs.lemmas.List.{take_all}
use Rattle.std.proofs.lemmas.List.Elements.{All-more}
use Rattle.cfs_model.specs.declared.act.Entry.{Entry}
use Rattle.sched_record.specs.Join.{IsInside}
use Rattle.sched_record.proofs.Rising.{split_at}
use Rattle.sched_record.proofs.joining.outside_line.Goals as goal

pub returns-then-not-is_within-clause-found : goal.returns-then-not-is_within-clause-found
returns-then-not-is_within-clause-found c =
    let events = c.args.events.now in
    let i = c.loop-event.event-index in
    record {
      before = take i events;
      event = c.event-item.result;
      after = drop (i + 1) events;
      parts = split_at events i c.event-item.result c.loop-event-test.true c.event-item.is;
      inside = c.loop-event.invariant;
      outside = OnFalse_at c.if-not-is_within.true c.is_within.ensures.beyond;
      indexed = refl;
    }

pub loop-event-preserved : goal.loop-event-preserved
loop-event-preserved c =
    let Inside : Entry → Type 0 = λ event. IsInside c.args.cpus event in
    let here : Inside c.event-item.result = OnTrue_at c.if-not-is_within.false c.is_within.ensures.within in
    All-more Inside c.args.events.now c.loop-event.event-index c.event-item.result c.loop-event-test.true
    c.loop-event.invariant (subst Inside c.event-item.is here)

pub returns-clause-none : goal.returns-clause-none
returns-clause-none c =
    let Inside : List Entry → Type 0 = λ events. All (IsInside c.args.cpus) events in
    subst Inside (take_all c.loop-event.event-index c.args.events.now c.loop-event-test.false) c.loop-event.invariant
