-- The examples of a told charge: 101 is told to be charged up to a virtual runtime, from which its drift follows; it is
-- put back at it, and the floor is raised from it.
use Rattle.std.proofs.Common.{◌≡◌, ℕ, true, Some, ℤ, pos, ◌+ℤ◌, ◌-ℤ◌, ◌≤ℤ◌, ◌⊎◌, inl, inr, [], ◌∷◌, refl}
use Rattle.std.proofs.Common.{sym, ap, ◌∙◌, subst, arith, lit<, lit≤}
use Rattle.std.proofs.lemmas.Int.{ints}
use Rattle.std.specs.Int.{int_max}
use Rattle.cfs_model.specs.Machine.{Machine, Stands, IsQueued, put, put_pair, with_floor, with_move, with_runtime}
use Rattle.cfs_model.specs.Machine.{with_drift}
use Rattle.cfs_model.specs.Told.{IsTold, drift_after, IsWithin}
use Rattle.cfs_model.specs.Lifted.{charged, IsLifted}
use Rattle.cfs_model.specs.Step.{after_prev, after_next, IsSwitch, IsWakeQueued, IsWakeResting, IsStep}
use Rattle.cfs_model.specs.Order.{IsStart}
use Rattle.cfs_model.specs.Examples.{drifting, HasStep, start_time, switch_start, told_event, ToldExample, floor_start}
use Rattle.cfs_model.specs.Examples.{floor_event, ToldFloorExample}
use Rattle.cfs_model.proofs.Moves.{pair_cases}
use Rattle.cfs_model.proofs.OneNext.{one_lifted}
use Rattle.cfs_model.proofs.StartOrder.{start_in_order}
use Rattle.cfs_model.proofs.Range.{lifted_range, change_range}
use Rattle.cfs_model.proofs.SwitchExample.{first_task, second_task, start_is, runs_one, waits_one, can_charge_even}
use Rattle.cfs_model.proofs.Worked.{of_two, value_at, below_at, can_charge_one}
use Rattle.cfs_model.specs.declared.act.Way.TheVariants.{Stays}
use Rattle.cfs_model.specs.declared.charge_line.ChargeLine.{ChargeLine}
use Rattle.cfs_model.specs.declared.task.Place.TheVariants.{Run, Wait, Rest}
use Rattle.cfs_model.specs.declared.task.Task.{Task}
use Rattle.cfs_model.specs.declared.policy.Policy.TheVariants.{Normal}

abbrev time : ℕ
time = 100004000000

-- the charge that is told of 101
abbrev charge_to : ℤ → ChargeLine
charge_to told = record { line = 1; pid = 101; v = told }

abbrev start : Machine
start = switch_start (pos 0) Normal (pos 0)

abbrev exactly : Machine
exactly = charged start 0 time

above_self : (u : ℤ) (n : ℕ) → u ≤ℤ (u +ℤ pos n)
above_self u n = omega (arith, ints)

-- of a told value from 3 to 5 ms
module _ (told : ℤ) (low : pos 3000000 ≤ℤ told) (high : told ≤ℤ pos 5000000) where
  abbrev as_told : Machine
  as_told = with_drift (with_runtime exactly 101 told) 101 (drift_after (pos 0) told (pos 4000000))

  is_told : IsTold 1000000 (charge_to told) 0 start exactly
  is_told = record {
    runs = refl;
    own = pos 0;
    runtime = refl;
    rises = omega (arith, ints);
    exact = pos 4000000;
    charged = refl;
    within = (omega (arith, ints), omega (arith, ints));
  }

  -- 102 waits at 0, and is the least
  least_of : (q : ℕ) (w : ℤ) → IsQueued as_told 0 q → as_told.runtime q ≡ Some w → pos 0 ≤ℤ w
  unfolding put
  least_of q w (inl runs) e = below_at as_told.runtime 101 q (pos 0) told w (runs_one (pos 0) Normal (pos 0) q runs)
      refl
      e (omega (arith, ints))
  least_of q w (inr waits) e = below_at as_told.runtime 102 q (pos 0) (pos 0) w
      (waits_one (pos 0) Normal (pos 0) q waits) refl e (omega (arith, ints))

  abbrev lifted : Machine
  lifted = with_floor as_told 0 (pos 0)

  lift : IsLifted 1000000 time (Some (charge_to told)) (0 ∷ []) start lifted
  unfolding put is_told
  lift = (
    lifted,
    record {
      can_charge = can_charge_even (pos 0);
      told = as_told;
      charges = (is_told, refl);
      floor = pos 0;
      raised = inr (pos 0, record { pid = 102; queued = inr refl; runtime = refl; least = least_of }, refl);
      result = refl;
    },
    refl,
  )

  told_step : HasStep drifting start (told_event told told)
  unfolding put put_pair
  told_step =
      let after : Machine = after_next (after_prev lifted 0 101 Stays) 0 102 in
      let changes : IsSwitch drifting lifted 0 101 (pos 0) Stays 102 (pos 0) (told_event told told).claim after =
      record {
        differ = λ e. omega arith;
        current = refl;
        prev_prio = refl;
        next_prio = refl;
        put_back = (told, refl, (refl, refl, refl));
        pick = (
          pos 0,
          refl,
          refl,
          λ q w waits e. elim (pair_cases lifted.waiting 0 101 true 0 q) [
            | inl x ↦ subst (λ y. pos 0 ≤ℤ (y +ℤ pos 1000000)) (value_at lifted.runtime 101 q told w
                (sym x.1) refl e) (omega (arith, ints))
            | inr x ↦ subst (λ y. pos 0 ≤ℤ (y +ℤ pos 1000000)) (value_at lifted.runtime 102 q (pos 0) w
                (waits_one (pos 0) Normal (pos 0) q (sym x.1 ∙ waits)) refl e) (above_self (pos 0) 1000000)
          ],
        );
        result = refl;
      } in (
        after,
        record {
          lifted = lifted;
          is_lifted = lift;
          found = lifted;
          is_reniced = refl;
          changes = changes;
          in_range = change_range drifting lifted (told_event told told).entry.act (told_event told told).claim Normal
              after changes (omega (arith, ints), omega (arith, ints))
              (lifted_range 1000000 time (Some (charge_to told)) (0 ∷ []) start lifted lift
              (omega (arith, ints), omega (arith, ints))
              (start_in_order start_time (pos 0 ∷ []) (first_task (pos 0) Normal ∷ second_task (pos 0) ∷ [])
              (start_is (pos 0) Normal (pos 0) (omega (arith, ints), omega (arith, ints)))).in_range);
        },
      )

-- any step is told from 3 to 5 ms, and puts 101 back at what is told
from_told : (told exact : ℤ) → pos 4000000 ≡ exact → IsWithin 1000000 (drift_after (pos 0) told exact)
    → (pos 3000000 ≤ℤ told) × (told ≤ℤ pos 5000000)
from_told told exact e w =
    let low = w.0 in let high = w.1 in (omega (arith, ints), omega (arith, ints))

module _ (told w : ℤ) (after : Machine) (s : IsStep drifting start (told_event told w) after) where
  within_told : (pos 3000000 ≤ℤ told) × (told ≤ℤ pos 5000000)
  within_told =
      let t = s.is_lifted.1.charges.0 in
      from_told told t.exact (value_at exactly.runtime 101 101 (pos 4000000) t.exact refl refl t.charged) t.within

  put_back_at : w ≡ told
  unfolding put
  put_back_at =
      let same = s.is_reniced ∙ one_lifted 1000000 1000000 time (Some (charge_to told)) (0 ∷ []) start s.lifted
      (lifted told within_told.0 within_told.1) s.is_lifted (lift told within_told.0 within_told.1) in
      let back = s.changes.put_back in
      back.2.2 ∙ value_at s.found.runtime 101 101 back.0 told refl back.1 (ap (λ (m : Machine). m.runtime 101) same)

pub told_lem : ToldExample
told_lem told w = (
  (λ s. let within = within_told told w s.0 s.1 in (within.0, within.1, put_back_at told w s.0 s.1)),
  (λ h. subst (λ x. HasStep drifting start (told_event told x)) (sym h.2) (told_step told h.0 h.1)),
)

-- the floor
abbrev runner : Task
runner = record { pid = 101; nice = pos 0; policy = Normal; cpu = 0; place = Run; v = pos 0 }

abbrev sleeper : Task
sleeper = record { pid = 102; nice = pos 0; policy = Normal; cpu = 0; place = Rest; v = pos 0 }

floor_start_is : IsStart (pos 0 ∷ []) (runner ∷ sleeper ∷ [])
floor_start_is = record {
  pids_rise = ((lit< tt, tt), (tt, tt));
  one_runs = (((λ t. cc), tt), (tt, tt));
  runtimes_in_range = ((omega (arith, ints), omega (arith, ints)), ((omega (arith, ints), omega (arith, ints)), tt));
  floors_in_range = ((omega (arith, ints), omega (arith, ints)), tt);
}

runner_alone : (q : ℕ) → Stands floor_start Run 0 q → 101 ≡ q
runner_alone q h = elim (of_two runner sleeper Run 0 q h) [ inl x ↦ x.0 | inr x ↦ let e = x.2 in cc ]

nobody_waits : (q : ℕ) → ¬ Stands floor_start Wait 0 q
nobody_waits q h = elim (of_two runner sleeper Wait 0 q h) [ inl x ↦ let e = x.2 in cc | inr x ↦ let e = x.2 in cc ]

abbrev floor_exactly : Machine
floor_exactly = charged floor_start 0 time

abbrev floor_told : Machine
floor_told = with_drift (with_runtime floor_exactly 101 (pos 3500000)) 101
    (drift_after (pos 0) (pos 3500000) (pos 4000000))

abbrev floor_lifted : Machine
floor_lifted = with_floor floor_told 0 (pos 3500000)

floor_is_told : IsTold 1000000 (charge_to (pos 3500000)) 0 floor_start floor_exactly
floor_is_told = record {
  runs = refl;
  own = pos 0;
  runtime = refl;
  rises = omega (arith, ints);
  exact = pos 4000000;
  charged = refl;
  within = (omega (arith, ints), omega (arith, ints));
}

floor_least : (q : ℕ) (w : ℤ) → IsQueued floor_told 0 q → floor_told.runtime q ≡ Some w → pos 3500000 ≤ℤ w
unfolding put
floor_least q w (inl runs) e = below_at floor_told.runtime 101 q (pos 3500000) (pos 3500000) w (runner_alone q runs)
    refl e (omega (arith, ints))
floor_least q w (inr waits) e = absurd (nobody_waits q waits)

floor_lift : IsLifted 1000000 time (Some (charge_to (pos 3500000))) (0 ∷ []) floor_start floor_lifted
unfolding put floor_is_told
floor_lift = (
  floor_lifted,
  record {
    can_charge = can_charge_one floor_start 0 time 101 (pos 0) (pos 0) runner_alone refl refl (lit≤ tt)
        (omega (arith, ints));
    told = floor_told;
    charges = (floor_is_told, refl);
    floor = pos 3500000;
    raised = inr (
      pos 3500000,
      record { pid = 101; queued = inl refl; runtime = refl; least = floor_least },
      refl,
    );
    result = refl;
  },
  refl,
)

floor_step : (w : ℤ) → pos 500000 ≤ℤ w → w ≤ℤ pos 3500000 → HasStep drifting floor_start (floor_event w)
unfolding put put_pair
floor_step w low high =
    let after : Machine = with_runtime (with_move floor_lifted 102 Rest 0 Wait 0) 102 w in
    let changes : IsWakeResting drifting floor_lifted 0 102 (pos 0) (floor_event w).claim after = record {
      rests = refl;
      prio = refl;
      own = pos 0;
      runtime = refl;
      placed = w;
      claimed = (refl, refl, refl);
      from = low;
      to = high;
      result = refl;
    } in (
      after,
      record {
        lifted = floor_lifted;
        is_lifted = floor_lift;
        found = floor_lifted;
        is_reniced = refl;
        changes = inr changes;
        in_range = change_range drifting floor_lifted (floor_event w).entry.act (floor_event w).claim Normal after
            (inr changes) (omega (arith, ints), omega (arith, ints))
            (lifted_range 1000000 time (Some (charge_to (pos 3500000))) (0 ∷ []) floor_start floor_lifted floor_lift
            (omega (arith, ints), omega (arith, ints))
            (start_in_order start_time (pos 0 ∷ []) (runner ∷ sleeper ∷ []) floor_start_is).in_range);
      },
    )

floor_bounds : (w : ℤ) (after : Machine) → IsStep drifting floor_start (floor_event w) after
    → (pos 500000 ≤ℤ w) × (w ≤ℤ pos 3500000)
unfolding put
floor_bounds w after s = go s.changes
  where
    same : s.found ≡ floor_lifted
    same = s.is_reniced ∙ one_lifted 1000000 1000000 time (Some (charge_to (pos 3500000))) (0 ∷ []) floor_start s.lifted
        floor_lifted s.is_lifted floor_lift

    floor_is : s.found.floor 0 ≡ pos 3500000
    floor_is = ap (λ (m : Machine). m.floor 0) same

    go : IsWakeQueued s.found 0 102 (pos 0) (floor_event w).claim after ⊎ IsWakeResting drifting s.found 0 102
        (pos 0) (floor_event w).claim after → (pos 500000 ≤ℤ w) × (w ≤ℤ pos 3500000)
    go (inl x) = let e = x.no_claim in absurd cc
    go (inr x) =
        let own = value_at s.found.runtime 102 102 x.own (pos 0) refl x.runtime (ap (λ (m : Machine). m.runtime 102)
        same) in
        let from : int_max (pos 0) (pos 3500000 -ℤ pos 3000000) ≤ℤ x.placed = subst
        (λ o. int_max o (pos 3500000 -ℤ pos 3000000) ≤ℤ x.placed) own
        (subst (λ f. int_max x.own (f -ℤ pos 3000000) ≤ℤ x.placed) floor_is x.from) in
        let to : x.placed ≤ℤ int_max (pos 0) (pos 3500000) = subst (λ o. x.placed ≤ℤ int_max o (pos 3500000)) own
        (subst (λ f. x.placed ≤ℤ int_max x.own f) floor_is x.to) in
        (subst (λ y. pos 500000 ≤ℤ y) (sym x.claimed.2) from, subst (λ y. y ≤ℤ pos 3500000) (sym x.claimed.2) to)

pub floor_lem : ToldFloorExample
floor_lem w = ((λ s. floor_bounds w s.0 s.1), (λ h. floor_step w h.0 h.1))
