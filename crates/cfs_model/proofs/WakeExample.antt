-- The example of a wakeup: nobody is charged and the floor stays, so the bounds are those of the start.
use Rattle.std.proofs.Common.{◌≡◌, ℕ, Some, None, ℤ, pos, ◌-ℤ◌, ◌≤ℤ◌, ◌⊎◌, inl, inr, [], ◌∷◌, refl, sym, ap, ◌∙◌}
use Rattle.std.proofs.Common.{subst, arith}
use Rattle.std.proofs.lemmas.Int.{ints}
use Rattle.std.specs.Int.{int_max}
use Rattle.cfs_model.specs.Machine.{Machine, IsQueued, put, put_pair, with_floor, with_move, with_runtime}
use Rattle.cfs_model.specs.Lifted.{charged, IsRaised, IsLifted}
use Rattle.cfs_model.specs.Step.{IsWakeQueued, IsWakeResting, IsStep}
use Rattle.cfs_model.specs.Order.{IsStart}
use Rattle.cfs_model.specs.Examples.{standard, HasStep, start_time, wake_start, wake_event, WakeExample}
use Rattle.cfs_model.proofs.StartOrder.{start_in_order}
use Rattle.cfs_model.proofs.Range.{lifted_range, change_range}
use Rattle.cfs_model.proofs.ToldCharge.{untold_is, untold_raised}
use Rattle.cfs_model.proofs.Worked.{of_one, value_at, can_charge_none}
use Rattle.cfs_model.specs.declared.task.Place.TheVariants.{Run, Wait, Rest}
use Rattle.cfs_model.specs.declared.task.Task.{Task}
use Rattle.cfs_model.specs.declared.policy.Policy.TheVariants.{Normal}

abbrev the_task : Task
the_task = record { pid = 101; nice = pos 0; policy = Normal; cpu = 0; place = Rest; v = pos 0 }

start_is : IsStart (pos 10000000 ∷ []) (the_task ∷ [])
start_is = record {
  pids_rise = (tt, tt);
  one_runs = (tt, tt);
  runtimes_in_range = ((omega (arith, ints), omega (arith, ints)), tt);
  floors_in_range = ((omega (arith, ints), omega (arith, ints)), tt);
}

-- nobody runs or waits
nobody_queued : (q : ℕ) → ¬ IsQueued wake_start 0 q
nobody_queued q h = elim h [
  | inl x ↦ let e = (of_one the_task Run 0 q x).2 in cc
  | inr x ↦ let e =
      (of_one the_task Wait 0 q x).2 in cc
]

-- the machine after the lift: the floor is as it was
abbrev lifted : Machine
lifted = with_floor (charged wake_start 0 start_time) 0 (pos 10000000)

lift : IsLifted 0 start_time None (0 ∷ []) wake_start lifted
lift = (
  lifted,
  record {
    can_charge = can_charge_none wake_start 0 start_time (λ q h. nobody_queued q (inl h));
    told = charged wake_start 0 start_time;
    charges = refl;
    floor = pos 10000000;
    raised = inl (nobody_queued, refl);
    result = refl;
  },
  refl,
)

wake_step : (w : ℤ) → pos 7000000 ≤ℤ w → w ≤ℤ pos 10000000 → HasStep standard wake_start (wake_event w)
unfolding put put_pair
wake_step w low high =
    let after : Machine = with_runtime (with_move lifted 101 Rest 0 Wait 0) 101 w in
    let changes : IsWakeResting standard lifted 0 101 (pos 0) (wake_event w).claim after = record {
      rests = refl;
      prio = refl;
      own = pos 0;
      runtime = refl;
      placed = w;
      claimed = (refl, refl, refl);
      from = low;
      to = high;
      result = refl;
    } in (
      after,
      record {
        lifted = lifted;
        is_lifted = lift;
        found = lifted;
        is_reniced = refl;
        changes = inr changes;
        in_range = change_range standard lifted (wake_event w).entry.act (wake_event w).claim Normal after (inr changes)
            (omega (arith, ints), omega (arith, ints)) (lifted_range 0 start_time None (0 ∷ []) wake_start lifted
            lift tt
            (start_in_order start_time (pos 10000000 ∷ []) (the_task ∷ []) start_is).in_range);
      },
    )

-- the machine that the event of any step finds
wake_found : (w : ℤ) (after : Machine) (s : IsStep standard wake_start (wake_event w) after)
    → (s.found.runtime 101 ≡ Some (pos 0)) × (s.found.floor 0 ≡ pos 10000000)
unfolding put
wake_found w after s =
    let e = s.is_reniced ∙ s.is_lifted.2 ∙ untold_is 0 start_time 0 wake_start s.is_lifted.0 s.is_lifted.1 in (
      ap (λ (m : Machine). m.runtime 101) e,
      ap (λ (m : Machine). m.floor 0) e ∙ floor_stays
          (untold_raised 0 start_time 0 wake_start s.is_lifted.0 s.is_lifted.1),
    )
  where
    floor_stays : IsRaised (charged wake_start 0 start_time) 0 s.is_lifted.1.floor → s.is_lifted.1.floor ≡ pos 10000000
    floor_stays (inl a) = a.1
    floor_stays (inr a) = absurd (nobody_queued a.1.pid a.1.queued)

wake_bounds : (w : ℤ) (after : Machine) → IsStep standard wake_start (wake_event w) after → (pos 7000000 ≤ℤ w)
    × (w ≤ℤ pos 10000000)
wake_bounds w after s = go s.changes
  where
    known : (s.found.runtime 101 ≡ Some (pos 0)) × (s.found.floor 0 ≡ pos 10000000)
    known = wake_found w after s

    go : IsWakeQueued s.found 0 101 (pos 0) (wake_event w).claim after ⊎ IsWakeResting standard s.found 0 101
        (pos 0) (wake_event w).claim after → (pos 7000000 ≤ℤ w) × (w ≤ℤ pos 10000000)
    go (inl x) = let e = x.no_claim in absurd cc
    go (inr x) =
        let own = value_at s.found.runtime 101 101 x.own (pos 0) refl x.runtime known.0 in
        let from : int_max (pos 0) (pos 10000000 -ℤ pos 3000000) ≤ℤ x.placed = subst
        (λ o. int_max o (pos 10000000 -ℤ pos 3000000) ≤ℤ x.placed) own
        (subst (λ f. int_max x.own (f -ℤ pos 3000000) ≤ℤ x.placed) known.1 x.from) in
        let to : x.placed ≤ℤ int_max (pos 0) (pos 10000000) = subst (λ o. x.placed ≤ℤ int_max o (pos 10000000)) own
        (subst (λ f. x.placed ≤ℤ int_max x.own f) known.1 x.to) in
        (subst (λ y. pos 7000000 ≤ℤ y) (sym x.claimed.2) from, subst (λ y. y ≤ℤ pos 10000000) (sym x.claimed.2) to)

pub wake_lem : WakeExample
wake_lem w = ((λ s. wake_bounds w s.0 s.1), (λ h. wake_step w h.0 h.1))
