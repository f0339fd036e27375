-- The examples of a change of a nice value: the first lift charges by the old value, the wakeup prints the new one, and
-- the second lift charges by it. Where no task stands at the event's processor, none can be named.
use Rattle.std.proofs.Common.{◌≡◌, ℕ, zero, suc, true, Some, None, ℤ, pos, ◌+ℤ◌, ◌≤ℤ◌, ◌⊎◌, inl, inr, List, []}
use Rattle.std.proofs.Common.{◌∷◌, refl, sym, ap, ◌∙◌, subst, arith, lit≤}
use Rattle.std.proofs.lemmas.Int.{ints}
use Rattle.cfs_model.specs.Machine.{Machine, Stands, IsQueued, AreValuesInRange, put, put_pair, with_floor, with_nice}
use Rattle.cfs_model.specs.Start.{named_in}
use Rattle.cfs_model.specs.Claimed.{Claimed}
use Rattle.cfs_model.specs.Lifted.{charged, CanCharge, IsLifted}
use Rattle.cfs_model.specs.Reniced.{IsReniced}
use Rattle.cfs_model.specs.Step.{after_prev, after_next, IsSwitch, IsWakeQueued, IsWakeResting, IsStep}
use Rattle.cfs_model.specs.Idling.{Idles, KeepsSlack}
use Rattle.cfs_model.specs.Run.{AreSteps, IsRun}
use Rattle.cfs_model.specs.Examples.{standard, start_time, at_claim, switch_start, nice_events, NiceChangeExample}
use Rattle.cfs_model.specs.Examples.{birth_start, StrangeNiceExample}
use Rattle.cfs_model.proofs.Moves.{pair_cases}
use Rattle.cfs_model.proofs.OneNext.{one_lifted}
use Rattle.cfs_model.proofs.StartOrder.{start_in_order}
use Rattle.cfs_model.proofs.Range.{lifted_range, change_range}
use Rattle.cfs_model.proofs.Renice.{reniced_range}
use Rattle.cfs_model.proofs.SwitchExample.{first_task, second_task, start_is, runs_one, waits_one, least_second}
use Rattle.cfs_model.proofs.SwitchExample.{can_charge_even}
use Rattle.cfs_model.proofs.ToldCharge.{untold_is}
use Rattle.cfs_model.proofs.Worked.{of_one, of_two, value_at, below_at, can_charge_one}
use Rattle.cfs_model.specs.declared.act.Act.TheVariants.{Switch, Wake}
use Rattle.cfs_model.specs.declared.act.Way.TheVariants.{Stays}
use Rattle.cfs_model.specs.declared.nice_line.NiceLine.{NiceLine}
use Rattle.cfs_model.specs.declared.task.Place.{Place}
use Rattle.cfs_model.specs.declared.task.Place.TheVariants.{Run, Wait, Rest}
use Rattle.cfs_model.specs.declared.task.Task.{Task}
use Rattle.cfs_model.specs.declared.policy.Policy.TheVariants.{Normal}

abbrev start : Machine
start = switch_start (pos 0) Normal (pos 0)

start_range : AreValuesInRange start
start_range = (start_in_order start_time (pos 0 ∷ [])
    (first_task (pos 0) Normal ∷ second_task (pos 0) ∷ []) (start_is (pos 0) Normal (pos 0)
    (omega (arith, ints), omega (arith, ints)))).in_range

-- the wakeup
abbrev change : NiceLine
change = record { line = 1; pid = 101; nice = pos 5 }

abbrev first_event : ℤ → Claimed
first_event printed = record {
  entry = record { line = 1; time = 100004000000; act = Wake 0 101 printed };
  claim = None;
  nice = Some change;
  charge = None;
  policy = Normal;
}

abbrev first_lifted : Machine
first_lifted = with_floor (charged start 0 100004000000) 0 (pos 0)

abbrev first_state : Machine
first_state = with_nice first_lifted 101 (pos 5)

first_lift : IsLifted 0 100004000000 None (0 ∷ []) start first_lifted
first_lift = (
  first_lifted,
  record {
    can_charge = can_charge_even (pos 0);
    told = charged start 0 100004000000;
    charges = refl;
    floor = pos 0;
    raised = inr (pos 0, least_second (pos 0) Normal (pos 4000000) refl (omega (arith, ints)), refl);
    result = refl;
  },
  refl,
)

renices : IsReniced 0 (Some change) first_lifted first_state
renices = ((Run, refl), refl)

first_step : IsStep standard start (first_event (pos 5)) first_state
unfolding put
first_step =
    let changes : IsWakeQueued first_state 0 101
    (pos 5) None first_state = record { queued = inl refl; prio = refl; no_claim = refl; result = refl } in
    record {
      lifted = first_lifted;
      is_lifted = first_lift;
      found = first_state;
      is_reniced = renices;
      changes = inl changes;
      in_range = reniced_range 0 (Some change) first_lifted first_state renices
          (lifted_range 0 100004000000 None (0 ∷ []) start first_lifted first_lift tt start_range);
    }

-- the switch
abbrev second_event : ℤ → Claimed
second_event w = record {
  entry = record { line = 2; time = 100008000000; act = Switch 0 101 (pos 5) Stays 102 (pos 0) };
  claim = Some (at_claim 2 101 w);
  nice = None;
  charge = None;
  policy = Normal;
}

abbrev second_charged : Machine
second_charged = charged first_state 0 100008000000

abbrev second_lifted : Machine
second_lifted = with_floor second_charged 0 (pos 0)

abbrev second_state : Machine
second_state = after_next (after_prev second_lifted 0 101 Stays) 0 102

-- 4 ms at weight 1024, and 4 ms at weight 335
charged_first : second_charged.runtime 101 ≡ Some (pos 16226865)
unfolding put
charged_first = refl

can_charge_light : CanCharge first_state 0 100008000000
unfolding put
can_charge_light = can_charge_one first_state 0 100008000000 101 (pos 5) (pos 4000000)
    (runs_one (pos 0) Normal (pos 0)) refl refl (lit≤ tt) (omega (arith, ints))

least_of : (q : ℕ) (w : ℤ) → IsQueued second_charged 0 q → second_charged.runtime q ≡ Some w → pos 0 ≤ℤ w
least_of q w (inl runs) e = below_at second_charged.runtime 101 q (pos 0) (pos 16226865) w
    (runs_one (pos 0) Normal (pos 0) q runs) charged_first e (omega (arith, ints))
least_of q w (inr waits) e = below_at second_charged.runtime 102 q (pos 0) (pos 0) w
    (waits_one (pos 0) Normal (pos 0) q waits) refl e (omega (arith, ints))

second_lift : IsLifted 0 100008000000 None (0 ∷ []) first_state second_lifted
unfolding put
second_lift = (
  second_lifted,
  record {
    can_charge = can_charge_light;
    told = second_charged;
    charges = refl;
    floor = pos 0;
    raised = inr (pos 0, record { pid = 102; queued = inr refl; runtime = refl; least = least_of }, refl);
    result = refl;
  },
  refl,
)

second_step : IsStep standard first_state (second_event (pos 16226865)) second_state
unfolding put put_pair
second_step =
    let changes : IsSwitch standard second_lifted 0 101 (pos 5) Stays 102 (pos 0)
    (second_event (pos 16226865)).claim second_state = record {
      differ = λ e. omega arith;
      current = refl;
      prev_prio = refl;
      next_prio = refl;
      put_back = (pos 16226865, charged_first, (refl, refl, refl));
      pick = (
        pos 0,
        refl,
        refl,
        λ q w waits e. elim (pair_cases second_lifted.waiting 0 101 true 0 q) [
          | inl x ↦ subst (λ y. pos 0 ≤ℤ (y +ℤ pos 1000000)) (value_at second_lifted.runtime 101 q (pos 16226865) w
              (sym x.1) charged_first e) (omega (arith, ints))
          | inr x ↦ subst (λ y. pos 0 ≤ℤ (y +ℤ pos 1000000)) (value_at second_lifted.runtime 102 q (pos 0) w
              (waits_one (pos 0) Normal (pos 0) q (sym x.1 ∙ waits)) refl e) (omega (arith, ints))
        ],
      );
      result = refl;
    } in
    record {
      lifted = second_lifted;
      is_lifted = second_lift;
      found = second_lifted;
      is_reniced = refl;
      changes = changes;
      in_range = change_range standard second_lifted (second_event (pos 16226865)).entry.act
          (second_event (pos 16226865)).claim Normal second_state changes (omega (arith, ints), omega (arith, ints))
          (lifted_range 0 100008000000 None (0 ∷ []) first_state second_lifted second_lift tt first_step.in_range);
    }

-- 101 runs before the switch, so the processor doesn't idle
never_idle : (m : Machine) → m.running ≡ start.running → m.waiting ≡ start.waiting → (cpu : ℕ) → ¬ Idles m cpu
never_idle m e f cpu idle = elim
    (of_two (first_task (pos 0) Normal) (second_task (pos 0)) Wait cpu idle.pid
    (ap (λ s. s cpu idle.pid) (sym f) ∙ idle.waits)) [
      | inl x ↦ let k = x.2 in cc
      | inr x ↦ idle.nobody_runs 101 (ap (λ s. s cpu 101) e ∙ subst (λ c. start.running c 101 ≡ true) x.1 refl)
    ]

keeps_slack : (slack : ℕ) (times : List ℕ) → KeepsSlack slack times (start ∷ first_state ∷ second_state ∷ [])
keeps_slack slack times cpu zero j below within idles = absurd
    (never_idle start refl refl cpu (idles 0 (lit≤ tt) below))
keeps_slack slack times cpu (suc zero) j below within idles = absurd
    (never_idle first_state refl refl cpu (idles 1 (lit≤ tt) below))
keeps_slack slack times cpu (suc (suc i)) j below within idles = absurd (omega arith)

-- any first step prints the new value, and leads to that machine
first_is : (printed : ℤ) (between : Machine) → IsStep standard start (first_event printed) between
    → (printed ≡ pos 5) × (between ≡ first_state)
unfolding put
first_is printed between s = go s.changes
  where
    found : s.found ≡ first_state
    found = s.is_reniced.1
        ∙ ap (λ m. with_nice m 101 (pos 5))
        (one_lifted 0 0 100004000000 None (0 ∷ []) start s.lifted first_lifted s.is_lifted first_lift)

    go : IsWakeQueued s.found 0 101 printed None between ⊎ IsWakeResting standard s.found 0 101 printed None between
        → (printed ≡ pos 5) × (between ≡ first_state)
    go (inl x) = (
      value_at s.found.nice 101 101 printed (pos 5) refl x.prio (ap (λ (m : Machine). m.nice 101) found),
      x.result ∙ found,
    )
    go (inr x) = absurd x.claimed

-- any second step puts 101 back at both charges
second_is : (w : ℤ) (after : Machine) → IsStep standard first_state (second_event w) after → w ≡ pos 16226865
second_is w after s =
    let found : s.found ≡ second_lifted = s.is_reniced
    ∙ one_lifted 0 0 100008000000 None (0 ∷ []) first_state s.lifted second_lifted s.is_lifted second_lift in
    let back = s.changes.put_back in
    back.2.2 ∙ value_at s.found.runtime 101 101 back.0 (pos 16226865) refl back.1
    (ap (λ (m : Machine). m.runtime 101) found ∙ charged_first)

in_a_run : (printed w : ℤ) (states : List Machine) → AreSteps standard start (nice_events printed w) states
    → (printed ≡ pos 5) × (w ≡ pos 16226865)
in_a_run printed w [] steps = absurd steps
in_a_run printed w (m ∷ []) steps = absurd steps.1
in_a_run printed w (m ∷ n ∷ o ∷ states) steps = absurd steps.1.1
in_a_run printed w (m ∷ n ∷ []) steps =
    let first = first_is printed m steps.0 in
    (first.0, second_is w n (subst (λ x. IsStep standard x (second_event w) n) first.1 steps.1.0))

pub nice_change_lem : NiceChangeExample
nice_change_lem printed w = (
  (λ run. in_a_run printed w run.states run.steps),
  (λ h. subst (λ x. IsRun standard start_time start (nice_events x w)) (sym h.0)
      (subst (λ x. IsRun standard start_time start (nice_events (pos 5) x)) (sym h.1) (record {
        states = first_state ∷ second_state ∷ [];
        steps = (first_step, (second_step, tt));
        slack = keeps_slack 100000 (start_time ∷ 100004000000 ∷ 100008000000 ∷ []);
      }))),
)

-- 101 stands at the first processor, and nobody at the second
abbrev elsewhere : Task
elsewhere = record { pid = 101; nice = pos 0; policy = Normal; cpu = 0; place = Run; v = pos 0 }

nobody : (place : Place) (pid : ℕ) → named_in (elsewhere ∷ []) place 1 pid ≡ true → ⊥
nobody place pid h = let e = (of_one elsewhere place 1 pid h).1 in absurd (omega arith)

still_nobody : (floor : ℤ) (place : Place) (pid : ℕ)
    → ¬ Stands (with_floor (charged birth_start 1 100001000000) 1 floor) place 1 pid
still_nobody floor Run pid h = nobody Run pid h
still_nobody floor Wait pid h = nobody Wait pid h
still_nobody floor Rest pid h = nobody Rest pid h

pub strange_nice_lem : StrangeNiceExample
strange_nice_lem pid w s =
    let stands = s.1.is_reniced.0 in
    still_nobody s.1.is_lifted.1.floor stands.0 pid
    (subst (λ m. Stands m stands.0 1 pid) (s.1.is_lifted.2
    ∙ untold_is 0 100001000000 1 birth_start s.1.is_lifted.0 s.1.is_lifted.1) stands.1)
