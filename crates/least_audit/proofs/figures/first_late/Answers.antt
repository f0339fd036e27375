use Rattle.std.proofs.Common.{◌+◌, ◌≤◌, ◌++◌, ◌∷◌, [], drop, take, sym, ap, ◌∙◌, subst, arith}
use Rattle.std.specs.List.{AllByRecursion}
use Rattle.std.proofs.lemmas.List.{take_more}
use Rattle.cfs_model.specs.declared.act.Entry.{Entry}
use Rattle.least_audit.proofs.Late.{all_push, cut_at}
use Rattle.least_audit.proofs.figures.first_late.Goals as goal

pub loop-event-preserved : goal.loop-event-preserved
loop-event-preserved c =
    let events = c.args.events.now in
    let i = c.loop-event.event-index in
    let item = c.event-item.result in
    let s = c.saturating_sub.ensures in
    let f = c.if-saturating_sub-bound.false in
    subst (AllByRecursion (λ (x : Entry). x.time ≤ c.args.since + c.args.bound))
    (sym (take_more events i item c.loop-event-test.true ∙ ap (λ x. take i events ++ x ∷ []) (sym c.event-item.is)))
    (all_push (λ (x : Entry). x.time ≤ c.args.since + c.args.bound) (take i events) item c.loop-event.invariant
    (omega (arith, s, f)))

pub returns-then-saturating_sub-bound : goal.returns-then-saturating_sub-bound
returns-then-saturating_sub-bound c =
    let events = c.args.events.now in
    let i = c.loop-event.event-index in
    let item = c.event-item.result in
    record {
      front = take i events;
      rest = drop (i + 1) events;
      whole = cut_at events i item c.loop-event-test.true c.event-item.is;
      in_time = c.loop-event.invariant;
      late = (let s = c.saturating_sub.ensures in let t = c.if-saturating_sub-bound.true in omega (arith, s, t));
    }
