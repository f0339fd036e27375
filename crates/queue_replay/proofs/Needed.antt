-- What a pick's lead, a deed and a step need, and the needs of one step more.
use Rattle.std.proofs.Common.{◌≡◌, ◌≢◌, ℕ, zero, suc, ◌+◌, ◌<◌, ◌≤◌, List, [], ◌∷◌, ◌++◌, length, take, get_or, Option}
use Rattle.std.proofs.Common.{Some, None, option_map, inl, inr, ℤ, pos, ◌+ℤ◌, ◌≤ℤ◌, ◌<ℤ◌, refl, sym, ap, ◌∙◌, subst}
use Rattle.std.proofs.Common.{arith}
use Rattle.std.proofs.lemmas.Bool.{cases_eq}
use Rattle.std.proofs.lemmas.Int.{ints}
use Rattle.std.proofs.lemmas.List.{take_more}
use Rattle.std.proofs.lemmas.Option.{same_Some}
use Rattle.cfs_model.specs.Least.{larger}
use Rattle.cfs_model.specs.Knobs.{KnobsView}
use Rattle.cfs_model.specs.declared.act.Way.{Way}
use Rattle.cfs_model.specs.declared.task.Place.{Place}
use Rattle.cfs_model.specs.declared.task.Place.TheVariants.{Wait}
use Rattle.replay_model.specs.ClaimTests.{IsNextNotWaiting}
use Rattle.replay_model.specs.Deeds.{part_after_prev, reniced}
use Rattle.replay_model.specs.Needs.{AllPassNeeding, AreStepNeeds, IsBirthNeed, IsExcess, IsLeastWaiting, IsPickNeed}
use Rattle.replay_model.specs.Needs.{IsWakeNeed, IsDriftNeed, PassesNeeding, idle_need, only_slack}
use Rattle.replay_model.specs.Page.{ReplayStateView}
use Rattle.replay_model.specs.Part.{Part, Entity, IsIn, place_in}
use Rattle.replay_model.specs.declared.step.Deed.{Deed}
use Rattle.replay_model.specs.declared.step.Deed.TheVariants.{Switch, Wake, Born, Leave, Arrive}
use Rattle.replay_model.specs.declared.step.Step.{Step}
use Rattle.cfs_model.proofs.LeastSettings.{larger_nothing, larger_of_three}
use Rattle.replay_model.proofs.Clear.{place_or}
use Rattle.replay_model.proofs.PartFacts.{task_in}
use Rattle.queue_replay.specs.Needing.{IsNeed, PassesRaising, step_needs}
use Rattle.queue_replay.specs.Picks.{IsAbove, IsAboveGranularity, IsLead}
use Rattle.runqueue.specs.Queue.{IsLeastIfWaiting}
use Rattle.cfs_model.proofs.Moves.{put-other}
use Rattle.runqueue.proofs.Parts.{its_place, put-at}
use Rattle.cfs_model.specs.declared.charge_line.ChargeLine.{ChargeLine}
use Rattle.cfs_model.specs.declared.nice_line.NiceLine.{NiceLine}
use Rattle.queue_replay.proofs.Passed.{next_stays}

-- the next task leads by more than the granularity
pub over_lead : (granularity next lead : ℕ) (own : Option Entity) (part : Part) → granularity < lead
    → IsLead own part next lead
    → IsAboveGranularity granularity own part next next
over_lead granularity zero lead own part k h = absurd (omega (arith, h, k))
over_lead granularity (suc n) lead own part k h = go own h.0 h.1 h.2
  where
    beyond : (s : Entity) (v : ℤ) → IsLeastWaiting part v → IsExcess s.runtime v lead
        → IsAboveGranularity granularity (Some s) part (suc n) (suc n)
    beyond s v w (inl e) = let f = e.1 in absurd (omega (arith, f, k))
    beyond s v w (inr e) = let r = w.runtime in
        ((s, w.task, w.pid, refl, w.stands, w.waits, omega (arith, ints, r, e, k)), refl)

    go : (o : Option Entity) (least : Option ℤ) → IsLeastIfWaiting part least → IsAbove o least lead
        → IsAboveGranularity granularity o part (suc n) (suc n)
    go (Some s) (Some v) w a = beyond s v w a
    go None least w a = absurd (omega (arith, a, k))
    go (Some s) None w a = absurd (omega (arith, a, k))

-- it leads by no more
pub in_lead : (granularity next lead : ℕ) (own : Option Entity) (part : Part) → lead ≤ granularity
    → IsLead own part next lead
    → (pid : ℕ) → ¬ IsAboveGranularity granularity own part next pid
in_lead granularity zero lead own part k h pid a = a
in_lead granularity (suc n) lead own part k h pid a = go own h.0 h.1 h.2 a
  where
    near : (s : Entity) (v : ℤ) → IsExcess s.runtime v lead → s.runtime ≤ℤ (v +ℤ pos granularity)
    near s v (inl e) = let f = e.0 in omega (arith, ints, f)
    near s v (inr e) = omega (arith, ints, e, k)

    go : (o : Option Entity) (least : Option ℤ) → IsLeastIfWaiting part least → IsAbove o least lead
        → ¬ IsAboveGranularity granularity o part (suc n) pid
    go None least w x b = let e = b.0.3 in cc
    go (Some s) None nobody x b = nobody b.0.2 (ap its_place b.0.4 ∙ ap Some b.0.5)
    go (Some s) (Some v) w x b =
        let t = b.0.1 in
        let same : b.0.0 ≡ s = sym (same_Some s b.0.0 b.0.3) in
        let low : (t.runtime +ℤ pos granularity) <ℤ s.runtime =
        subst (λ (y : Entity). (t.runtime +ℤ pos granularity) <ℤ y.runtime) same b.0.6 in
        let least = w.least b.0.2 t b.0.4 b.0.5 in
        let high = near s v x in
        absurd (omega (arith, ints, low, least, high))

-- the next task of a switch waits
waits_there : (o : Option Place) → ¬ (¬ (o ≡ Some Wait)) → o ≡ Some Wait
waits_there o h = elim (place_or o Wait) [
  | inl e ↦ e
  | inr not ↦ absurd (h not)
]

-- a pick's lead is what it needs
pub pick_needs_lead : (part : Part) (prev : ℕ) (prev_nice : ℤ) (way : Way) (next : ℕ) (next_nice : ℤ)
    (own : Option Entity) (need : ℕ)
    → (next ≢ 0 → own ≡ part.tasks next) → prev ≢ next
    → ((pid : ℕ) → ¬ IsNextNotWaiting part (Switch prev prev_nice way next next_nice) pid)
    → IsLead own (part_after_prev part prev way) next need
    → IsPickNeed part (Switch prev prev_nice way next next_nice) need
pick_needs_lead part prev prev_nice way zero next_nice own need o two waits h = h
pick_needs_lead part prev prev_nice way (suc n) next_nice own need o two waits h =
    go lead.0 lead.1 lead.2
  where
    left : Part
    left = part_after_prev part prev way

    there : IsIn part Wait (suc n)
    there = waits_there (place_in part (suc n)) (λ not. waits (suc n) (not, refl))

    task : (s : Entity) × (part.tasks (suc n) ≡ Some s) × (s.place ≡ Wait)
    task = task_in part Wait (suc n) there

    lead : IsLead (Some task.0) left (suc n) need
    lead = subst (λ (x : Option Entity). IsLead x left (suc n) need) (o (λ e. cc) ∙ task.1) h

    go : (least : Option ℤ) → IsLeastIfWaiting left least → IsAbove (Some task.0) least need
        → IsPickNeed part (Switch prev prev_nice way (suc n) next_nice) need
    go (Some v) w x = (task.0, v, task.1, w, x)
    go None nobody x = absurd (nobody (suc n) (ap its_place (next_stays part prev way (suc n) two) ∙ there))

-- a step's needs, from its deed's, the time for which the processor had idled, and what its told charge leaves
pub needs_of_step : (since : Option ℕ) (found : Part) (step : Step) (need idled drift : ℕ)
    → IsNeed found step.deed step.claim need
    → idled ≡ idle_need since step.time → IsDriftNeed found step.charge drift
    → AreStepNeeds since found step (step_needs step.deed need idled drift)
needs_of_step since found step need idled drift n i d = record {
  granularity = of_pick step.deed n;
  credit = of_wake step.deed n;
  debit = of_birth step.deed n;
  slack = of_idling step.deed ∙ i;
  drift = subst (IsDriftNeed found step.charge) (sym (of_drift step.deed)) d;
}
  where
    of_pick : (deed : Deed) → IsNeed found deed step.claim need
        → IsPickNeed found deed (step_needs deed need idled drift).granularity
    of_pick (Switch prev prev_nice way next next_nice) h = h
    of_pick (Wake pid nice) h = refl
    of_pick (Born pid nice policy) h = refl
    of_pick (Leave pid nice dest) h = refl
    of_pick (Arrive pid nice orig policy) h = refl

    of_wake : (deed : Deed) → IsNeed found deed step.claim need
        → IsWakeNeed found deed step.claim (step_needs deed need idled drift).credit
    of_wake (Switch prev prev_nice way next next_nice) h = refl
    of_wake (Wake pid nice) h = h
    of_wake (Born pid nice policy) h = refl
    of_wake (Leave pid nice dest) h = refl
    of_wake (Arrive pid nice orig policy) h = refl

    of_birth : (deed : Deed) → IsNeed found deed step.claim need
        → IsBirthNeed found deed step.claim (step_needs deed need idled drift).debit
    of_birth (Switch prev prev_nice way next next_nice) h = refl
    of_birth (Wake pid nice) h = refl
    of_birth (Born pid nice policy) h = h
    of_birth (Leave pid nice dest) h = refl
    of_birth (Arrive pid nice orig policy) h = refl

    of_idling : (deed : Deed) → (step_needs deed need idled drift).slack ≡ idled
    of_idling (Switch prev prev_nice way next next_nice) = refl
    of_idling (Wake pid nice) = refl
    of_idling (Born pid nice policy) = refl
    of_idling (Leave pid nice dest) = refl
    of_idling (Arrive pid nice orig policy) = refl

    of_drift : (deed : Deed) → (step_needs deed need idled drift).drift ≡ drift
    of_drift (Switch prev prev_nice way next next_nice) = refl
    of_drift (Wake pid nice) = refl
    of_drift (Born pid nice policy) = refl
    of_drift (Leave pid nice dest) = refl
    of_drift (Arrive pid nice orig policy) = refl

-- a change of a nice value changes no drift
pub need_reniced : (change : Option NiceLine) (lifted : Part) (charge : Option ChargeLine) (need : ℕ)
    → IsDriftNeed lifted charge need → IsDriftNeed (reniced change lifted) charge need
need_reniced change lifted None need d = d
need_reniced None lifted (Some charge) need d = d
need_reniced (Some change) lifted (Some charge) need d =
    elim (cases_eq charge.pid change.pid) [
      | inl same ↦ (
        record d.0 { nice = change.nice },
        put-at lifted.tasks change.pid
            (option_map (λ (s : Entity). record s { nice = change.nice }) (lifted.tasks change.pid)) charge.pid same
            ∙ ap (option_map (λ (s : Entity). record s { nice = change.nice })) (ap lifted.tasks (sym same) ∙ d.1),
        d.2,
      )
      | inr other ↦ (d.0, put-other lifted.tasks change.pid _ charge.pid other ∙ d.1, d.2)
    ]

-- one more step
needing_push : (knobs : KnobsView) (cpu : ℕ) (before : ReplayStateView) (steps : List Step) (between : ReplayStateView)
    (needed : KnobsView)
    (step : Step) (after : ReplayStateView) (here : KnobsView)
    → AllPassNeeding knobs cpu before steps between needed → PassesNeeding knobs cpu between step after here
    → AllPassNeeding knobs cpu before (steps ++ step ∷ []) after (larger needed here)
needing_push knobs cpu before [] between needed step after here r p = (
  after,
  here,
  only_slack 0,
  subst (λ x. PassesNeeding knobs cpu x step after here) r.0 p,
  (refl, refl),
  ap (λ n. larger n here) r.1 ∙ larger_nothing here,
)
needing_push knobs cpu before (first ∷ steps) between needed step after here r p = (
  r.0,
  r.1,
  larger r.2 here,
  r.3,
  needing_push knobs cpu r.0 steps between r.2 step after here r.4 p,
  ap (λ n. larger n here) r.5 ∙ larger_of_three r.1 r.2 here,
)

pub needing_more : (knobs : KnobsView) (cpu : ℕ) (start : ReplayStateView) (steps : List Step) (made : ℕ)
    (between : ReplayStateView)
    (needed : KnobsView) (step : Step) (after : ReplayStateView) (needs : KnobsView)
    → made < length steps → step ≡ get_or steps made step
    → AllPassNeeding knobs cpu start (take made steps) between needed
    → PassesRaising knobs cpu between needed step after needs
    → AllPassNeeding knobs cpu start (take (made + 1) steps) after needs
needing_more knobs cpu start steps made between needed step after needs within is r p =
    let more : AllPassNeeding knobs cpu start (take made steps ++ step ∷ []) after needs
    = subst (λ n. AllPassNeeding knobs cpu start (take made steps ++ step ∷ []) after n) (sym p.2)
    (needing_push knobs cpu start (take made steps) between needed step after p.0 r p.1) in
    let e : take (made + 1) steps ≡ take made steps ++ step ∷ [] = take_more steps made step within
    ∙ ap (λ x. take made steps ++ x ∷ []) (sym is) in
    subst (λ l. AllPassNeeding knobs cpu start l after needs) (sym e) more
