-- Runs without told charges, and those at drift 0: where nothing is told the bound isn't asked for, and where the bound
-- is 0 what is told of a task without a drift is just its exact charge.
use Rattle.std.proofs.Common.{◌≡◌, ◌≢◌, ℕ, Option, Some, None, ℤ, pos, ◌⊎◌, inl}
use Rattle.std.proofs.Common.{inr}
use Rattle.std.proofs.Common.{List, [], ◌∷◌, map, refl, sym, ap, ap₂, ◌∙◌, subst, arith}
use Rattle.std.proofs.lemmas.Int.{ints}
use Rattle.std.proofs.Math.Path.{fun_ext}
use Rattle.std.specs.List.{AllByRecursion}
use Rattle.cfs_model.specs.Knobs.{KnobsView}
use Rattle.cfs_model.specs.Machine.{Machine, put}
use Rattle.cfs_model.specs.Claimed.{Claimed}
use Rattle.cfs_model.specs.Touch.{touched}
use Rattle.cfs_model.specs.Told.{drift_after, IsWithin, ChargesAs}
use Rattle.cfs_model.specs.Lifted.{charged, IsLiftedAt, IsLifted}
use Rattle.cfs_model.specs.Step.{IsStep}
use Rattle.cfs_model.specs.Idling.{KeepsSlack}
use Rattle.cfs_model.specs.Run.{AreSteps}
use Rattle.cfs_model.specs.ToldLaws.{IsUntold, HasNoDrift, UntoldIgnoresDrift, UntoldHasNoDrift, IsExactlyLifted}
use Rattle.cfs_model.specs.ToldLaws.{UntoldLiftsExactly, untold, NoDriftIsExact, AreDriftsWithin}
use Rattle.cfs_model.proofs.Moves.{put-same, put-other, same_or_not}
use Rattle.cfs_model.proofs.ToldCharge.{untold_is, untold_raised}
use Rattle.cfs_model.proofs.MoreGenerous.{changes_more}
use Rattle.cfs_model.proofs.LeastSettings.{asked_same}
use Rattle.cfs_model.proofs.DriftSums.{step_within, drifts_are_within}
use Rattle.cfs_model.specs.declared.charge_line.ChargeLine.{ChargeLine}

-- a lift of one processor where nothing is told, under any bound
untold_at : (bound other time cpu : ℕ) (before after : Machine) → IsLiftedAt bound time None cpu before after
    → IsLiftedAt other time None cpu before after
untold_at bound other time cpu before after l = record {
  can_charge = l.can_charge;
  told = l.told;
  charges = l.charges;
  floor = l.floor;
  raised = l.raised;
  result = l.result;
}

untold_lift : (bound other time : ℕ) (cpus : List ℕ) (before after : Machine)
    → IsLifted bound time None cpus before after
    → IsLifted other time None cpus before after
untold_lift bound other time [] before after l = l
untold_lift bound other time (cpu ∷ cpus) before after l =
    (l.0, untold_at bound other time cpu before l.0 l.1, untold_lift bound other time cpus l.0 after l.2)

untold_step : (knobs : KnobsView) (drift : ℕ) (before : Machine) (event : Claimed) (after : Machine) → IsUntold event
    → IsStep knobs before event after → IsStep (record knobs { drift = drift }) before event after
untold_step knobs drift before event after none s = record {
  lifted = s.lifted;
  is_lifted = subst (λ charge. IsLifted drift event.entry.time charge (touched event.entry.act) before s.lifted)
      (sym none)
      (untold_lift knobs.drift drift event.entry.time (touched event.entry.act) before s.lifted
      (subst (λ charge. IsLifted knobs.drift event.entry.time charge (touched event.entry.act) before s.lifted) none
      s.is_lifted));
  found = s.found;
  is_reniced = s.is_reniced;
  changes = changes_more knobs (record knobs { drift = drift }) s.found event.entry.act event.claim event.policy after
      (asked_same knobs drift event.entry.act) s.changes;
  in_range = s.in_range;
}

untold_steps : (knobs : KnobsView) (drift : ℕ) (first : Machine) (events : List Claimed) (states : List Machine)
    → AllByRecursion IsUntold events → AreSteps knobs first events states
    → AreSteps (record knobs { drift = drift }) first events states
untold_steps knobs drift first [] [] none steps = tt
untold_steps knobs drift first [] (m ∷ states) none steps = absurd steps
untold_steps knobs drift first (event ∷ events) [] none steps = absurd steps
untold_steps knobs drift first (event ∷ events) (m ∷ states) none steps = (
  untold_step knobs drift first event m none.0 steps.0,
  untold_steps knobs drift m events states none.1 steps.1,
)

pub untold_ignores_drift : UntoldIgnoresDrift
untold_ignores_drift knobs drift start first events none run = record {
  states = run.states;
  steps = untold_steps knobs drift first events run.states none run.steps;
  slack = run.slack;
}

only_none : (d : ℤ) → IsWithin 0 d → d ≡ pos 0
only_none d w = let low = w.0 in let high = w.1 in omega (arith, ints)

none_within : (d : ℤ) → d ≡ pos 0 → IsWithin 0 d
none_within d e = subst (IsWithin 0) (sym e) (omega (arith, ints), omega (arith, ints))

none_in_all : (states : List Machine) → AllByRecursion (AreDriftsWithin 0) states → AllByRecursion HasNoDrift states
none_in_all [] h = tt
none_in_all (m ∷ states) h = ((λ pid. only_none (m.drift pid) (h.0 pid)), none_in_all states h.1)

-- at drift 0 nothing could stray
pub untold_has_no_drift : UntoldHasNoDrift
unfolding untold_ignores_drift
untold_has_no_drift knobs start first events none never run =
    none_in_all run.states
    (drifts_are_within (record knobs { drift = 0 }) start first events (λ pid. none_within (first.drift pid) (none pid))
    (untold_ignores_drift knobs 0 start first events never run))

pub untold_lifts_exactly : UntoldLiftsExactly
untold_lifts_exactly bound time cpus before after = (there cpus before after, back cpus before after)
  where
    there : (cpus : List ℕ) (before after : Machine) → IsLifted bound time None cpus before after
        → IsExactlyLifted time cpus before after
    there [] before after l = l
    there (cpu ∷ cpus) before after l = (
      l.0,
      record {
        can_charge = l.1.can_charge;
        floor = l.1.floor;
        raised = untold_raised bound time cpu before l.0 l.1;
        result = untold_is bound time cpu before l.0 l.1;
      },
      there cpus l.0 after l.2,
    )

    back : (cpus : List ℕ) (before after : Machine) → IsExactlyLifted time cpus before after
        → IsLifted bound time None cpus before after
    back [] before after l = l
    back (cpu ∷ cpus) before after l = (
      l.0,
      record {
        can_charge = l.1.can_charge;
        told = charged before cpu time;
        charges = refl;
        floor = l.1.floor;
        raised = l.1.raised;
        result = l.1.result;
      },
      back cpus l.0 after l.2,
    )

same_value : (drift told exact : ℤ) → drift ≡ pos 0 → IsWithin 0 (drift_after drift told exact) → told ≡ exact
same_value drift told exact e w = let low = w.0 in let high = w.1 in omega (arith, ints)

-- a map with the value put that it has
put_itself : {A : Type 0} (f : ℕ → A) (key : ℕ) (x : A) → f key ≡ x → put f key x ≡ f
put_itself f key x e = fun_ext (λ other. go other (same_or_not other key))
  where
    go : (other : ℕ) → (other ≡ key) ⊎ (other ≢ key) → put f key x other ≡ f other
    go other (inl s) = ap (put f key x) s ∙ put-same f key x ∙ sym e ∙ ap f (sym s)
    go other (inr ne) = put-other f key x other ne

-- what is told at drift 0 of tasks without a drift is the exact charge
told_exactly : (charge : Option ChargeLine) (cpu time : ℕ) (before told : Machine) → HasNoDrift before
    → ChargesAs 0 charge cpu before (charged before cpu time) told → told ≡ charged before cpu time
told_exactly None cpu time before told none c = c
told_exactly (Some charge) cpu time before told none c =
    let is : charge.v ≡ c.0.exact = same_value (before.drift charge.pid) charge.v c.0.exact (none charge.pid)
    c.0.within in
    let exactly = charged before cpu time in
    c.1
    ∙ ap₂ (λ runtime drift. record exactly { runtime = runtime; drift = drift })
    (put_itself exactly.runtime charge.pid (Some charge.v) (c.0.charged ∙ ap Some (sym is)))
    (put_itself before.drift charge.pid (drift_after (before.drift charge.pid) charge.v c.0.exact)
    (none charge.pid
    ∙ sym (only_none (drift_after (before.drift charge.pid) charge.v c.0.exact) c.0.within)))

lifted_exactly : (charge : Option ChargeLine) (time : ℕ) (cpus : List ℕ) (before after : Machine) → HasNoDrift before
    → IsLifted 0 time charge cpus before after → IsLifted 0 time None cpus before after
lifted_exactly charge time [] before after none l = l
lifted_exactly charge time (cpu ∷ cpus) before after none l = (
  l.0,
  record {
    can_charge = l.1.can_charge;
    told = l.1.told;
    charges = told_exactly charge cpu time before l.1.told none l.1.charges;
    floor = l.1.floor;
    raised = l.1.raised;
    result = l.1.result;
  },
  l.2,
)

step_exactly : (knobs : KnobsView) (before : Machine) (event : Claimed) (after : Machine) → knobs.drift ≡ 0
    → HasNoDrift before → IsStep knobs before event after → IsStep knobs before (untold event) after
step_exactly knobs before event after zero none s = record {
  lifted = s.lifted;
  is_lifted = subst (λ bound. IsLifted bound event.entry.time None (touched event.entry.act) before s.lifted) (sym zero)
      (lifted_exactly event.charge event.entry.time (touched event.entry.act) before s.lifted none
      (subst (λ bound. IsLifted bound event.entry.time event.charge (touched event.entry.act) before s.lifted) zero
      s.is_lifted));
  found = s.found;
  is_reniced = s.is_reniced;
  changes = s.changes;
  in_range = s.in_range;
}

steps_exactly : (knobs : KnobsView) (first : Machine) (events : List Claimed) (states : List Machine) → knobs.drift ≡ 0
    → HasNoDrift first → AreSteps knobs first events states → AreSteps knobs first (map untold events) states
steps_exactly knobs first [] [] zero none steps = tt
steps_exactly knobs first [] (m ∷ states) zero none steps = absurd steps
steps_exactly knobs first (event ∷ events) [] zero none steps = absurd steps
steps_exactly knobs first (event ∷ events) (m ∷ states) zero none steps = (
  step_exactly knobs first event m zero none steps.0,
  steps_exactly knobs m events states zero (λ pid. only_none (m.drift pid)
      (subst (λ bound. IsWithin bound (m.drift pid)) zero
      (step_within knobs first event m steps.0 pid (subst (λ bound. IsWithin bound (first.drift pid)) (sym zero)
      (none_within (first.drift pid) (none pid)))))) steps.1,
)

same_times : (events : List Claimed)
    → map (λ (event : Claimed). event.entry.time) (map untold events)
    ≡ map (λ (event : Claimed). event.entry.time) events
same_times [] = refl
same_times (event ∷ events) = ap (λ times. event.entry.time ∷ times) (same_times events)

pub no_drift_is_exact : NoDriftIsExact
no_drift_is_exact knobs start first events zero none run = (
  record {
    states = run.states;
    steps = steps_exactly knobs first events run.states zero none run.steps;
    slack = subst (λ times. KeepsSlack knobs.slack times (first ∷ run.states))
        (ap (λ times. start ∷ times) (sym (same_times events))) run.slack;
  },
  refl,
)
