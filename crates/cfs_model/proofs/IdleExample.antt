-- The example of idle slack: the states are the same for every time of the last event, the first and the second of
-- them idle, and the start doesn't.
use Rattle.std.proofs.Common.{◌≡◌, ℕ, zero, suc, ◌<◌, ◌≤◌, true, Some, None, slice_index, pos, ◌+ℤ◌, ◌≤ℤ◌, inl}
use Rattle.std.proofs.Common.{inr, List, [], ◌∷◌, refl, sym, ap, ◌∙◌, subst, arith, lit<, lit≤}
use Rattle.std.proofs.lemmas.Int.{ints, clamps}
use Rattle.cfs_model.specs.Machine.{Machine, Stands, AreValuesInRange, put, put_pair, with_floor, with_move}
use Rattle.cfs_model.specs.Machine.{with_runtime}
use Rattle.cfs_model.specs.Lifted.{charged, IsLeast, IsLifted}
use Rattle.cfs_model.specs.Step.{IsWakeQueued, IsWakeResting, IsSwitch, after_next, IsStep}
use Rattle.cfs_model.specs.Idling.{Idles, IdlesFrom, KeepsSlack}
use Rattle.cfs_model.specs.Run.{AreSteps, IsRun}
use Rattle.cfs_model.specs.Order.{IsStart}
use Rattle.cfs_model.specs.Examples.{standard, start_time, at_claim, idle_start, idle_events, IdleExample}
use Rattle.cfs_model.specs.Claimed.{Claimed}
use Rattle.cfs_model.proofs.Moves.{pair_cases}
use Rattle.cfs_model.proofs.OneNext.{one_list}
use Rattle.cfs_model.proofs.StartOrder.{start_in_order}
use Rattle.cfs_model.proofs.Range.{lifted_range, change_range}
use Rattle.cfs_model.proofs.Worked.{of_one, value_at, below_at, can_charge_none}
use Rattle.cfs_model.specs.declared.act.Act.TheVariants.{Switch, Wake}
use Rattle.cfs_model.specs.declared.act.Way.TheVariants.{Stays}
use Rattle.cfs_model.specs.declared.task.Place.TheVariants.{Run, Wait, Rest}
use Rattle.cfs_model.specs.declared.task.Task.{Task}
use Rattle.cfs_model.specs.declared.policy.Policy.TheVariants.{Normal}

abbrev the_task : Task
the_task = record { pid = 102; nice = pos 0; policy = Normal; cpu = 0; place = Rest; v = pos 0 }

start_is : IsStart (pos 0 ∷ []) (the_task ∷ [])
start_is = record {
  pids_rise = (tt, tt);
  one_runs = (tt, tt);
  runtimes_in_range = ((omega (arith, ints), omega (arith, ints)), tt);
  floors_in_range = ((omega (arith, ints), omega (arith, ints)), tt);
}

start_range : AreValuesInRange idle_start
start_range = (start_in_order start_time (pos 0 ∷ []) (the_task ∷ []) start_is).in_range

nobody_runs : (cpu q : ℕ) → ¬ Stands idle_start Run cpu q
nobody_runs cpu q h = let e = (of_one the_task Run cpu q h).2 in cc

nobody_waits : (cpu q : ℕ) → ¬ Stands idle_start Wait cpu q
nobody_waits cpu q h = let e = (of_one the_task Wait cpu q h).2 in cc

-- the first wakeup
abbrev first_lifted : Machine
first_lifted = with_floor (charged idle_start 0 100001000000) 0 (pos 0)

abbrev first_state : Machine
first_state = with_runtime (with_move first_lifted 102 Rest 0 Wait 0) 102 (pos 0)

abbrev first_event : Claimed
first_event = record {
  entry = record { line = 1; time = 100001000000; act = Wake 0 102 (pos 0) };
  claim = Some
      (at_claim 1 102 (pos 0));
  nice = None;
  charge = None;
  policy = Normal;
}

first_lift : IsLifted 0 100001000000 None (0 ∷ []) idle_start first_lifted
first_lift = (
  first_lifted,
  record {
    can_charge = can_charge_none idle_start 0 100001000000 (nobody_runs 0);
    told = charged idle_start 0 100001000000;
    charges = refl;
    floor = pos 0;
    raised = inl ((λ q h. elim h [ inl x ↦ nobody_runs 0 q x | inr x ↦ nobody_waits 0 q x ]), refl);
    result = refl;
  },
  refl,
)

first_change : IsWakeResting standard first_lifted 0 102 (pos 0) first_event.claim first_state
unfolding put put_pair
first_change = record {
  rests = refl;
  prio = refl;
  own = pos 0;
  runtime = refl;
  placed = pos 0;
  claimed = (refl, refl, refl);
  from = omega (arith, ints, clamps);
  to = omega (arith, ints, clamps);
  result = refl;
}

first_step : IsStep standard idle_start first_event first_state
first_step = record {
  lifted = first_lifted;
  is_lifted = first_lift;
  found = first_lifted;
  is_reniced = refl;
  changes = inr first_change;
  in_range = change_range standard first_lifted first_event.entry.act first_event.claim Normal first_state
      (inr first_change)
      (omega (arith, ints), omega (arith, ints))
      (lifted_range 0 100001000000 None (0 ∷ []) idle_start first_lifted first_lift tt start_range);
}

-- 102 alone waits from then on
waits_one : (q : ℕ) → Stands first_state Wait 0 q → 102 ≡ q
waits_one q h = elim (pair_cases first_lifted.waiting 0 102 true 0 q) [
  | inl x ↦ sym x.1
  | inr x ↦ absurd
      (nobody_waits 0 q (sym x.1 ∙ h))
]

it_waits : Stands first_state Wait 0 102
unfolding put put_pair
it_waits = refl

-- and its virtual runtime of 0 is the least
least_at : (m : Machine) → m.running ≡ idle_start.running → m.waiting ≡ first_state.waiting → m.runtime 102 ≡ Some
    (pos 0) → IsLeast m 0 (pos 0)
least_at m e f g = record {
  pid = 102;
  queued = inr (ap (λ s. s 0 102) f ∙ it_waits);
  runtime = g;
  least = λ q w h k. elim h [
    | inl x ↦ absurd (nobody_runs 0 q (ap (λ s. s 0 q) (sym e) ∙ x))
    | inr x ↦ below_at m.runtime 102 q (pos 0) (pos 0) w (waits_one q (ap (λ s. s 0 q) (sym f) ∙ x)) g k
        (omega (arith, ints))
  ];
}

-- the second wakeup
abbrev second_state : Machine
second_state = with_floor (charged first_state 0 100001050000) 0 (pos 0)

abbrev second_event : Claimed
second_event = record {
  entry = record { line = 2; time = 100001050000; act = Wake 0 102 (pos 0) };
  claim = None;
  nice = None;
  charge = None;
  policy = Normal;
}

second_lift : IsLifted 0 100001050000 None (0 ∷ []) first_state second_state
unfolding put
second_lift = (
  second_state,
  record {
    can_charge = can_charge_none first_state 0 100001050000 (nobody_runs 0);
    told = charged first_state 0 100001050000;
    charges = refl;
    floor = pos 0;
    raised = inr (pos 0, least_at (charged first_state 0 100001050000) refl refl refl, refl);
    result = refl;
  },
  refl,
)

second_step : IsStep standard first_state second_event second_state
second_step =
    let changes : IsWakeQueued second_state 0 102
    (pos 0) None second_state = record { queued = inr it_waits; prio = refl; no_claim = refl; result = refl } in
    record {
      lifted = second_state;
      is_lifted = second_lift;
      found = second_state;
      is_reniced = refl;
      changes = inl changes;
      in_range = lifted_range 0 100001050000 None (0 ∷ []) first_state second_state second_lift tt first_step.in_range;
    }

-- the switch
module _ (time : ℕ) where
  abbrev third_lifted : Machine
  third_lifted = with_floor (charged second_state 0 time) 0 (pos 0)

  abbrev third_state : Machine
  third_state = after_next third_lifted 0 102

  abbrev third_event : Claimed
  third_event = record {
    entry = record { line = 3; time = time; act = Switch 0 0 (pos 0) Stays 102 (pos 0) };
    claim = None;
    nice = None;
    charge = None;
    policy = Normal;
  }

third_lift : (time : ℕ) → IsLifted 0 time None (0 ∷ []) second_state (third_lifted time)
unfolding put
third_lift time = (
  third_lifted time,
  record {
    can_charge = can_charge_none second_state 0 time (nobody_runs 0);
    told = charged second_state 0 time;
    charges = refl;
    floor = pos 0;
    raised = inr (pos 0, least_at (charged second_state 0 time) refl refl refl, refl);
    result = refl;
  },
  refl,
)

third_step : (time : ℕ) → IsStep standard second_state (third_event time) (third_state time)
unfolding put
third_step time =
    let changes : IsSwitch standard (third_lifted time) 0 0 (pos 0) Stays 102 (pos 0) None (third_state time) = record {
      differ = λ e. omega arith;
      current = nobody_runs 0;
      prev_prio = tt;
      next_prio = refl;
      put_back = refl;
      pick = (
        pos 0,
        refl,
        it_waits,
        λ q w h e.
            subst (λ y. pos 0 ≤ℤ (y +ℤ pos 1000000)) (value_at (third_lifted time).runtime 102 q (pos 0) w
            (waits_one q h) refl e) (omega (arith, ints)),
      );
      result = refl;
    } in
    record {
      lifted = third_lifted time;
      is_lifted = third_lift time;
      found = third_lifted time;
      is_reniced = refl;
      changes = changes;
      in_range = change_range standard (third_lifted time) (third_event time).entry.act None Normal (third_state time)
          changes
          tt
          (lifted_range 0 time None (0 ∷ []) second_state (third_lifted time) (third_lift time) tt
          second_step.in_range);
    }

idle_steps : (time : ℕ) → AreSteps standard idle_start (idle_events time)
    (first_state ∷ second_state ∷ third_state time ∷ [])
idle_steps time = (first_step, (second_step, (third_step time, tt)))

abbrev times : ℕ → List ℕ
times time = start_time ∷ 100001000000 ∷ 100001050000 ∷ time ∷ []

abbrev states : ℕ → List Machine
states time = idle_start ∷ first_state ∷ second_state ∷ third_state time ∷ []

-- every event is at the first wakeup or later, and at the last event or earlier
not_before : (time i : ℕ) → 100001050000 ≤ time → 0 < i → i < 4 → 100001000000 ≤ slice_index (times time) i
not_before time zero h low high = absurd (omega arith)
not_before time (suc zero) h low high = lit≤ tt
not_before time (suc (suc zero)) h low high = lit≤ tt
not_before time (suc (suc (suc zero))) h low high = omega arith
not_before time (suc (suc (suc (suc n)))) h low high = absurd (omega arith)

not_after : (time j : ℕ) → 100001050000 ≤ time → j < 4 → slice_index (times time) j ≤ time
not_after time zero h high = omega arith
not_after time (suc zero) h high = omega arith
not_after time (suc (suc zero)) h high = h
not_after time (suc (suc (suc zero))) h high = omega arith
not_after time (suc (suc (suc (suc n)))) h high = absurd (omega arith)

-- the start doesn't idle, so the slack counts from the first wakeup at the earliest
keeps_slack : (time : ℕ) → 100001050000 ≤ time → time ≤ 100001100000 → KeepsSlack 100000 (times time) (states time)
keeps_slack time h k cpu zero j below within idles =
    let idle : Idles idle_start cpu = idles 0 (omega arith) below in absurd (nobody_waits cpu idle.pid idle.waits)
keeps_slack time h k cpu (suc i) j below within idles =
    let from = not_before time (suc i) h (omega arith) (omega arith) in
    let to = not_after time j h within in
    omega arith

-- the first and the second state idle
first_idles : Idles first_state 0
first_idles = record { nobody_runs = nobody_runs 0; pid = 102; waits = it_waits }

second_idles : Idles second_state 0
second_idles = record { nobody_runs = nobody_runs 0; pid = 102; waits = it_waits }

both_idle : (time : ℕ) → IdlesFrom (states time) 0 1 3
both_idle time zero low high = absurd (omega arith)
both_idle time (suc zero) low high = first_idles
both_idle time (suc (suc zero)) low high = second_idles
both_idle time (suc (suc (suc n))) low high = absurd (omega arith)

within_slack : (time : ℕ) → IsRun standard start_time idle_start (idle_events time) → time ≤ 100001100000
within_slack time run =
    let same = one_list standard idle_start (idle_events time) run.states
    (first_state ∷ second_state ∷ third_state time ∷ []) run.steps (idle_steps time) in
    let slack : KeepsSlack 100000 (times time) (states time) = subst (λ xs. KeepsSlack 100000 (times time)
    (idle_start ∷ xs)) same run.slack in
    slack 0 1 3 (lit< tt) (lit< tt) (both_idle time)

pub idle_lem : IdleExample
idle_lem time h = (
  within_slack time,
  (λ k. record {
    states = first_state ∷ second_state ∷ third_state time ∷ [];
    steps = idle_steps time;
    slack = keeps_slack time h k;
  }),
)
