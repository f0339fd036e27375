-- The example of an end and a birth: once 101 has ended it stands nowhere; had it slept it would still rest at the
-- first processor, and had it stayed its line would need a claim.
use Rattle.std.proofs.Common.{◌≡◌, ℕ, zero, suc, Some, None, ℤ, pos, ◌≤ℤ◌, inl, inr, List, [], ◌∷◌, refl, sym}
use Rattle.std.proofs.Common.{ap, ◌∙◌, subst, arith, lit≤}
use Rattle.std.proofs.lemmas.Int.{ints}
use Rattle.cfs_model.specs.Machine.{Machine, Stands, put, put_pair, with_floor, with_task, without_task, with_runtime}
use Rattle.cfs_model.specs.Machine.{with_nice, without_values, with_policy, with_drift}
use Rattle.cfs_model.specs.Claimed.{Claimed}
use Rattle.cfs_model.specs.Lifted.{charged, IsLeast, IsLifted}
use Rattle.cfs_model.specs.Step.{IsSwitch, IsBirth, IsStep}
use Rattle.cfs_model.specs.Idling.{Idles, KeepsSlack}
use Rattle.cfs_model.specs.Run.{AreSteps, IsRun}
use Rattle.cfs_model.specs.Order.{IsStart}
use Rattle.cfs_model.specs.Examples.{standard, start_time, at_claim, birth_start, birth_events, BirthExample}
use Rattle.cfs_model.specs.Examples.{IdleSwitchExample}
use Rattle.cfs_model.proofs.Moves.{IsGone, leave_gone}
use Rattle.cfs_model.proofs.KeptOrder.{same_sets}
use Rattle.cfs_model.proofs.StepOrder.{gone_same}
use Rattle.cfs_model.proofs.OneNext.{one_lifted, one_next}
use Rattle.cfs_model.proofs.StartOrder.{start_in_order}
use Rattle.cfs_model.proofs.Range.{lifted_range, change_range}
use Rattle.cfs_model.proofs.ToldCharge.{untold_is}
use Rattle.cfs_model.proofs.Worked.{of_one, below_at, can_charge_one, can_charge_none}
use Rattle.cfs_model.specs.declared.act.Act.TheVariants.{Switch, Born}
use Rattle.cfs_model.specs.declared.act.Way.{Way}
use Rattle.cfs_model.specs.declared.act.Way.TheVariants.{Stays, Sleeps, Ends}
use Rattle.cfs_model.specs.declared.task.Place.{Place}
use Rattle.cfs_model.specs.declared.task.Place.TheVariants.{Run, Wait, Rest}
use Rattle.cfs_model.specs.declared.task.Task.{Task}
use Rattle.cfs_model.specs.declared.policy.Policy.TheVariants.{Normal}

abbrev the_task : Task
the_task = record { pid = 101; nice = pos 0; policy = Normal; cpu = 0; place = Run; v = pos 0 }

start_is : IsStart (pos 0 ∷ pos 0 ∷ []) (the_task ∷ [])
start_is = record {
  pids_rise = (tt, tt);
  one_runs = (tt, tt);
  runtimes_in_range = ((omega (arith, ints), omega (arith, ints)), tt);
  floors_in_range = ((omega (arith, ints), omega (arith, ints)), ((omega (arith, ints), omega (arith, ints)), tt));
}

nobody_waits : (cpu q : ℕ) → ¬ Stands birth_start Wait cpu q
nobody_waits cpu q h = let e = (of_one the_task Wait cpu q h).2 in cc

-- the switch
abbrev first_event : Way → Claimed
first_event way = record {
  entry = record {
    line = 1;
    time = 100001000000;
    act = Switch 0 101 (pos 0) way 0
        (pos 0);
  };
  claim = None;
  nice = None;
  charge = None;
  policy = Normal;
}

abbrev first_lifted : Machine
first_lifted = with_floor (charged birth_start 0 100001000000) 0 (pos 1000000)

abbrev first_state : Machine
first_state = without_values (without_task first_lifted Run 0 101) 101

charged_least : IsLeast (charged birth_start 0 100001000000) 0 (pos 1000000)
charged_least = record {
  pid = 101;
  queued = inl refl;
  runtime = refl;
  least = λ q w h e. elim h [
    | inl x ↦ below_at (charged birth_start 0 100001000000).runtime 101 q (pos 1000000) (pos 1000000) w
        (of_one the_task Run 0 q x).0 refl e (omega (arith, ints))
    | inr x ↦ absurd (nobody_waits 0 q x)
  ];
}

first_lift : IsLifted 0 100001000000 None (0 ∷ []) birth_start first_lifted
first_lift = (
  first_lifted,
  record {
    can_charge = can_charge_one birth_start 0 100001000000 101 (pos 0) (pos 0)
        (λ q h. (of_one the_task Run 0 q h).0) refl refl (lit≤ tt) (omega (arith, ints));
    told = charged birth_start 0 100001000000;
    charges = refl;
    floor = pos 1000000;
    raised = inr (pos 1000000, charged_least, refl);
    result = refl;
  },
  refl,
)

first_step : IsStep standard birth_start (first_event Ends) first_state
first_step =
    let changes : IsSwitch standard first_lifted 0 101 (pos 0) Ends 0 (pos 0) None first_state = record {
      differ = λ e. omega arith;
      current = refl;
      prev_prio = refl;
      next_prio = tt;
      put_back = refl;
      pick = nobody_waits 0;
      result = refl;
    } in
    record {
      lifted = first_lifted;
      is_lifted = first_lift;
      found = first_lifted;
      is_reniced = refl;
      changes = changes;
      in_range = change_range standard first_lifted (first_event Ends).entry.act None Normal first_state changes tt
          (lifted_range 0 100001000000 None (0 ∷ []) birth_start first_lifted first_lift tt
          (start_in_order start_time (pos 0 ∷ pos 0 ∷ []) (the_task ∷ []) start_is).in_range);
    }

-- the birth
abbrev second_event : ℤ → Claimed
second_event w = record {
  entry = record { line = 2; time = 100002000000; act = Born 1 101 (pos 0) };
  claim = Some
      (at_claim 2 101 w);
  nice = None;
  charge = None;
  policy = Normal;
}

abbrev second_lifted : Machine
second_lifted = with_floor (charged first_state 1 100002000000) 1 (pos 0)

abbrev second_state : ℤ → Machine
second_state w =
    with_drift
    (with_policy (with_nice (with_runtime (with_task second_lifted Wait 1 101) 101 w) 101 (pos 0)) 101 Normal) 101
    (pos 0)

-- 101 stood at the first processor alone, so it stands nowhere now
was_alone : (r : Place) (d : ℕ) → Stands first_lifted r d 101 → (r ≡ Run) × (d ≡ 0)
was_alone Run d h = let is = of_one the_task Run d 101 h in (refl, sym is.1)
was_alone Wait d h = absurd (nobody_waits d 101 h)
was_alone Rest d h = let e = (of_one the_task Rest d 101 h).2 in absurd cc

ended_is_gone : IsGone first_lifted second_lifted 101
ended_is_gone = gone_same first_lifted (without_task first_lifted Run 0 101) second_lifted 101
    (same_sets (without_task first_lifted Run 0 101) second_lifted refl refl refl)
    (leave_gone first_lifted 101 Run 0 was_alone)

nowhere : (r : Place) (d : ℕ) → ¬ Stands second_lifted r d 101
nowhere r d h = (ended_is_gone.cases r d 101 h).0 refl

nobody_runs : (q : ℕ) → ¬ Stands second_lifted Run 1 q
nobody_runs q h = let e = (of_one the_task Run 1 q (ended_is_gone.cases Run 1 q h).1).1 in absurd (omega arith)

second_lift : IsLifted 0 100002000000 None (1 ∷ []) first_state second_lifted
unfolding put
second_lift = (
  second_lifted,
  record {
    can_charge = can_charge_none first_state 1 100002000000 nobody_runs;
    told = charged first_state 1 100002000000;
    charges = refl;
    floor = pos 0;
    raised = inl ((λ q h. elim h [ inl x ↦ nobody_runs q x | inr x ↦ nobody_waits 1 q x ]), refl);
    result = refl;
  },
  refl,
)

second_step : (w : ℤ) → pos 0 ≤ℤ w → w ≤ℤ pos 3000000 → IsStep standard first_state (second_event w) (second_state w)
unfolding put
second_step w low high =
    let changes : IsBirth standard second_lifted 1 101 (pos 0) (second_event w).claim Normal (second_state w) = record {
      nowhere = nowhere;
      placed = w;
      claimed = (refl, refl, refl);
      from = low;
      to = high;
      result = refl;
    } in
    record {
      lifted = second_lifted;
      is_lifted = second_lift;
      found = second_lifted;
      is_reniced = refl;
      changes = changes;
      in_range = change_range standard second_lifted (second_event w).entry.act (second_event w).claim Normal
          (second_state w) changes
          (omega (arith, ints), omega (arith, ints))
          (lifted_range 0 100002000000 None (1 ∷ []) first_state second_lifted second_lift tt first_step.in_range);
    }

-- nobody waits before the birth, so no slack is used
keeps_slack : (slack : ℕ) (times : List ℕ) (last : Machine)
    → KeepsSlack slack times (birth_start ∷ first_state ∷ last ∷ [])
keeps_slack slack times last cpu zero j below within idles = let idle : Idles birth_start cpu = idles 0
    (lit≤ tt) below in absurd (nobody_waits cpu idle.pid idle.waits)
keeps_slack slack times last cpu (suc zero) j below within idles = let idle : Idles first_state cpu = idles 1
    (lit≤ tt) below in absurd (nobody_waits cpu idle.pid idle.waits)
keeps_slack slack times last cpu (suc (suc i)) j below within idles = absurd (omega arith)

-- who slept still rests, so a birth finds it
asleep : (w : ℤ) (between after : Machine) → IsStep standard birth_start (first_event Sleeps) between
    → IsStep standard between (second_event w) after → ⊥
unfolding put put_pair
asleep w between after s t =
    let rests : Stands between Rest 0 101 = ap (λ (m : Machine). m.resting 0 101) s.changes.result in
    t.changes.nowhere Rest 0 (ap (λ (m : Machine). m.resting 0 101) (t.is_reniced ∙ t.is_lifted.2
    ∙ untold_is 0 100002000000 1 between t.is_lifted.0 t.is_lifted.1) ∙ rests)

-- and a birth after the end is placed from the floor to the debit above it
placed_at : (w : ℤ) (between after : Machine) → IsStep standard birth_start (first_event Ends) between
    → IsStep standard between (second_event w) after → (pos 0 ≤ℤ w) × (w ≤ℤ pos 3000000)
unfolding put
placed_at w between after s t =
    let same = one_next standard birth_start (first_event Ends) between first_state s first_step in
    let u : IsStep standard first_state (second_event w) after = subst
    (λ m. IsStep standard m (second_event w) after) same t in
    let lift = u.is_reniced ∙ one_lifted 0 0 100002000000 None (1 ∷ []) first_state u.lifted second_lifted u.is_lifted
    second_lift in
    let born : IsBirth standard second_lifted 1 101 (pos 0) (second_event w).claim Normal after = subst
    (λ m. IsBirth standard m 1 101 (pos 0) (second_event w).claim Normal after) lift u.changes in
    (subst (λ x. pos 0 ≤ℤ x) (sym born.claimed.2) born.from, subst (λ x. x ≤ℤ pos 3000000) (sym born.claimed.2) born.to)

in_a_run : (way : Way) (w : ℤ) (states : List Machine) → AreSteps standard birth_start (birth_events way w) states
    → (way ≡ Ends) × (pos 0 ≤ℤ w) × (w ≤ℤ pos 3000000)
in_a_run way w [] steps = absurd steps
in_a_run way w (m ∷ []) steps = absurd steps.1
in_a_run way w (m ∷ n ∷ o ∷ states) steps = absurd steps.1.1
in_a_run Stays w (m ∷ n ∷ []) steps = let back = steps.0.changes.put_back in absurd back.2
in_a_run Sleeps w (m ∷ n ∷ []) steps = absurd (asleep w m n steps.0 steps.1.0)
in_a_run Ends w (m ∷ n ∷ []) steps = let p = placed_at w m n steps.0 steps.1.0 in (refl, p.0, p.1)

pub birth_lem : BirthExample
birth_lem way w = (
  (λ run. in_a_run way w run.states run.steps),
  (λ h. subst (λ x. IsRun standard start_time birth_start (birth_events x w)) (sym h.0) (record {
    states = first_state ∷ second_state w ∷ [];
    steps = (first_step, (second_step w h.1 h.2, tt));
    slack = keeps_slack 100000 (start_time ∷ 100001000000 ∷ 100002000000 ∷ []) (second_state w);
  })),
)

-- 101 waits after it was put back, so the processor doesn't go idle
pub idle_switch_lem : IdleSwitchExample
unfolding put put_pair
idle_switch_lem w s = s.1.changes.pick 101 refl
