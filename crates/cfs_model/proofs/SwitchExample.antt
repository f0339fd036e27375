-- The examples of a switch: 101 is charged by its weight and put back, and 102 is picked. What hangs on the nice value,
-- the cost and the least virtual runtime, is a parameter.
use Rattle.std.proofs.Common.{◌≡◌, ℕ, true, Some, None, ℤ, pos, ◌+ℤ◌, ◌≤ℤ◌, inl, inr, [], ◌∷◌, refl, sym}
use Rattle.std.proofs.Common.{ap}
use Rattle.std.proofs.Common.{◌∙◌, subst, arith, lit<, lit≤}
use Rattle.std.proofs.lemmas.Int.{ints}
use Rattle.std.specs.Int.{int_max}
use Rattle.cfs_model.specs.Charge.{IsInRange}
use Rattle.cfs_model.specs.Machine.{Machine, Stands, IsQueued, put, put_pair, with_floor}
use Rattle.cfs_model.specs.Lifted.{charged, CanCharge, IsLeast, IsLifted}
use Rattle.cfs_model.specs.Step.{after_prev, after_next, IsSwitch, IsStep}
use Rattle.cfs_model.specs.Order.{IsStart}
use Rattle.cfs_model.specs.Examples.{standard, standard_with, HasStep, start_time, switch_start, switch_event}
use Rattle.cfs_model.specs.Examples.{PutBackExample, NiceExample, IdlePolicyExample, PickExample}
use Rattle.cfs_model.proofs.Moves.{pair_cases}
use Rattle.cfs_model.proofs.StartOrder.{start_in_order}
use Rattle.cfs_model.proofs.Range.{lifted_range, change_range}
use Rattle.cfs_model.proofs.ToldCharge.{untold_is}
use Rattle.cfs_model.proofs.Worked.{of_two, value_at, below_at, can_charge_one}
use Rattle.cfs_model.specs.declared.act.Way.TheVariants.{Stays}
use Rattle.cfs_model.specs.declared.task.Place.TheVariants.{Run, Wait}
use Rattle.cfs_model.specs.declared.task.Task.{Task}
use Rattle.cfs_model.specs.declared.policy.Policy.{Policy}
use Rattle.cfs_model.specs.declared.policy.Policy.TheVariants.{Normal, Idle}

-- the two tasks
abbrev pub first_task : ℤ → Policy → Task
first_task nice policy = record { pid = 101; nice = nice; policy = policy; cpu = 0; place = Run; v = pos 0 }

abbrev pub second_task : ℤ → Task
second_task u = record { pid = 102; nice = pos 0; policy = Normal; cpu = 0; place = Wait; v = u }

abbrev time : ℕ
time = 100004000000

pub start_is : (nice : ℤ) (policy : Policy) (u : ℤ) → IsInRange u
    → IsStart (pos 0 ∷ []) (first_task nice policy ∷ second_task u ∷ [])
start_is nice policy u h = record {
  pids_rise = ((lit< tt, tt), (tt, tt));
  one_runs = (((λ t. cc), tt), (tt, tt));
  runtimes_in_range = ((omega (arith, ints), omega (arith, ints)), (h, tt));
  floors_in_range = ((omega (arith, ints), omega (arith, ints)), tt);
}

-- 101 alone runs
pub runs_one : (nice : ℤ) (policy : Policy) (u : ℤ) (q : ℕ) → Stands (switch_start nice policy u) Run 0 q → 101 ≡ q
runs_one nice policy u q h =
    elim (of_two (first_task nice policy) (second_task u) Run 0 q h) [ inl x ↦ x.0 | inr x ↦ let e = x.2 in cc ]

-- 102 alone waits
pub waits_one : (nice : ℤ) (policy : Policy) (u : ℤ) (q : ℕ) → Stands (switch_start nice policy u) Wait 0 q → 102 ≡ q
waits_one nice policy u q h =
    elim (of_two (first_task nice policy) (second_task u) Wait 0 q h) [ inl x ↦ let e = x.2 in cc | inr x ↦ x.0 ]

-- the machine after the charge
abbrev after_charge : ℤ → Policy → ℤ → Machine
after_charge nice policy u = charged (switch_start nice policy u) 0 time

above_self : (u : ℤ) (n : ℕ) → u ≤ℤ (u +ℤ pos n)
above_self u n = omega (arith, ints)

-- the nice value of 101, the virtual runtime that it is charged to, the one at which 102 waits, and the least of both
module _ (nice : ℤ) (policy : Policy) (cost u v : ℤ) (is_cost : (after_charge nice policy u).runtime 101
    ≡ Some cost) where
  -- v is the least where it is at most what 101 and 102 have
  least_of : v ≤ℤ cost → v ≤ℤ u → (q : ℕ) (w : ℤ) → IsQueued (after_charge nice policy u) 0 q
      → (after_charge nice policy u).runtime q ≡ Some w → v ≤ℤ w
  least_of h k q w (inl runs) e =
      below_at (after_charge nice policy u).runtime 101 q v cost w (runs_one nice policy u q runs) is_cost e h
  least_of h k q w (inr waits) e =
      below_at (after_charge nice policy u).runtime 102 q v u w (waits_one nice policy u q waits) refl e k

  -- the step, from a least virtual runtime after the charge
  switch_step : (granularity : ℕ) → IsInRange u → IsInRange cost → CanCharge (switch_start nice policy u) 0 time
      → IsLeast (after_charge nice policy u) 0 v → u ≤ℤ (cost +ℤ pos granularity)
      → HasStep (standard_with granularity) (switch_start nice policy u) (switch_event nice cost)
  unfolding put put_pair
  switch_step granularity range within_range can_charge least within =
      let lifted : Machine = with_floor (after_charge nice policy u) 0 (int_max (pos 0) v) in
      let lift : IsLifted 0 time None (0 ∷ []) (switch_start nice policy u) lifted = (
        lifted,
        record {
          can_charge = can_charge;
          told = after_charge nice policy u;
          charges = refl;
          floor = int_max (pos 0) v;
          raised = inr
              (v, least, refl);
          result = refl;
        },
        refl,
      ) in
      let after : Machine = after_next (after_prev lifted 0 101 Stays) 0 102 in
      let changes : IsSwitch (standard_with granularity) lifted 0 101 nice Stays 102 (pos 0)
      (switch_event nice cost).claim after = record {
        differ = λ e. omega arith;
        current = refl;
        prev_prio = refl;
        next_prio = refl;
        put_back = (cost, is_cost, (refl, refl, refl));
        pick = (
          u,
          refl,
          refl,
          λ q w waits e. elim (pair_cases lifted.waiting 0 101 true 0 q) [
            | inl x ↦ subst (λ y. u ≤ℤ (y +ℤ pos granularity)) (value_at lifted.runtime 101 q cost w
                (sym x.1) is_cost e) within
            | inr x ↦
                subst (λ y. u ≤ℤ (y +ℤ pos granularity)) (value_at lifted.runtime 102 q u w
                (waits_one nice policy u q (sym x.1 ∙ waits)) refl e) (above_self u granularity)
          ],
        );
        result = refl;
      } in (
        after,
        record {
          lifted = lifted;
          is_lifted = lift;
          found = lifted;
          is_reniced = refl;
          changes = changes;
          in_range = change_range (standard_with granularity) lifted (switch_event nice cost).entry.act
              (switch_event nice cost).claim Normal after changes within_range
              (lifted_range 0 time None (0 ∷ []) (switch_start nice policy u) lifted lift tt (start_in_order start_time
              (pos 0 ∷ [])
              (first_task nice policy ∷ second_task u ∷ []) (start_is nice policy u range)).in_range);
        },
      )

  module _ (w : ℤ) (granularity : ℕ) (after : Machine)
      (s : IsStep (standard_with granularity) (switch_start nice policy u)
      (switch_event nice w) after) where
    -- the two virtual runtimes in the machine that the event of any step finds
    found_first : s.found.runtime 101 ≡ Some cost
    found_first = ap (λ (m : Machine). m.runtime 101) (s.is_reniced ∙ s.is_lifted.2
        ∙ untold_is 0 time 0 (switch_start nice policy u) s.is_lifted.0 s.is_lifted.1) ∙ is_cost

    found_second : s.found.runtime 102 ≡ Some u
    found_second = ap (λ (m : Machine). m.runtime 102) (s.is_reniced ∙ s.is_lifted.2
        ∙ untold_is 0 time 0 (switch_start nice policy u) s.is_lifted.0 s.is_lifted.1)

    -- any step puts 101 back at its charge
    put_back_at : w ≡ cost
    put_back_at = let back = s.changes.put_back in back.2.2
        ∙ value_at s.found.runtime 101 101 back.0 cost refl back.1 found_first

    -- any step picks within the granularity of 101
    picked_at : u ≤ℤ (cost +ℤ pos granularity)
    unfolding put put_pair
    picked_at =
        let pick = s.changes.pick in
        subst (λ x. x ≤ℤ (cost +ℤ pos granularity))
        (value_at s.found.runtime 102 102 pick.0 u refl pick.1 found_second) (pick.3 101 cost refl found_first)

-- 102 is the least where it waits at 0, and 101 where 102 waits at 5 ms
pub least_second : (nice : ℤ) (policy : Policy) (cost : ℤ) → (after_charge nice policy (pos 0)).runtime 101 ≡ Some cost
    → pos 0 ≤ℤ cost → IsLeast (after_charge nice policy (pos 0)) 0 (pos 0)
least_second nice policy cost e h = record {
  pid = 102;
  queued = inr refl;
  runtime = refl;
  least = least_of nice policy cost (pos 0)
      (pos 0) e h (omega (arith, ints));
}

least_first : IsLeast (after_charge (pos 0) Normal (pos 5000000)) 0 (pos 4000000)
least_first = record {
  pid = 101;
  queued = inl refl;
  runtime = refl;
  least = least_of (pos 0) Normal (pos 4000000)
      (pos 5000000) (pos 4000000) refl (omega (arith, ints)) (omega (arith, ints));
}

pub can_charge_even : (u : ℤ) → CanCharge (switch_start (pos 0) Normal u) 0 time
can_charge_even u = can_charge_one (switch_start (pos 0) Normal u) 0 time 101 (pos 0) (pos 0) (runs_one (pos 0)
    Normal u)
    refl refl (lit≤ tt) (omega (arith, ints))

can_charge_light : CanCharge (switch_start (pos 5) Normal (pos 0)) 0 time
can_charge_light = can_charge_one (switch_start (pos 5) Normal (pos 0)) 0 time 101 (pos 5) (pos 0)
    (runs_one (pos 5) Normal (pos 0)) refl refl (lit≤ tt) (omega (arith, ints))

pub put_back_lem : PutBackExample
put_back_lem w = (
  (λ s. put_back_at (pos 0) Normal (pos 4000000) (pos 0) (pos 0) refl w 1000000 s.0 s.1),
  (λ e. subst (λ x. HasStep standard (switch_start (pos 0) Normal (pos 0)) (switch_event (pos 0) x)) (sym e)
      (switch_step (pos 0) Normal (pos 4000000) (pos 0) (pos 0) refl 1000000 (omega (arith, ints), omega (arith, ints))
      (omega (arith, ints), omega (arith, ints))
      (can_charge_even (pos 0)) (least_second (pos 0) Normal (pos 4000000) refl (omega (arith, ints)))
      (omega (arith, ints)))),
)

pub nice_lem : NiceExample
nice_lem w = (
  (λ s. put_back_at (pos 5) Normal (pos 12226865) (pos 0) (pos 0) refl w 1000000 s.0 s.1),
  (λ e. subst (λ x. HasStep standard (switch_start (pos 5) Normal (pos 0)) (switch_event (pos 5) x)) (sym e)
      (switch_step (pos 5) Normal (pos 12226865) (pos 0) (pos 0) refl 1000000 (omega (arith, ints), omega (arith, ints))
      (omega (arith, ints), omega (arith, ints))
      can_charge_light (least_second (pos 5) Normal (pos 12226865) refl (omega (arith, ints))) (omega (arith, ints)))),
)

can_charge_idle : (nice : ℤ) → CanCharge (switch_start nice Idle (pos 0)) 0 time
can_charge_idle nice = can_charge_one (switch_start nice Idle (pos 0)) 0 time 101 nice (pos 0)
    (runs_one nice Idle (pos 0)) refl refl (lit≤ tt) (omega (arith, ints))

pub idle_policy_lem : IdlePolicyExample
idle_policy_lem nice w = (
  (λ s. put_back_at nice Idle (pos 1365333333) (pos 0) (pos 0) refl w 1000000 s.0 s.1),
  (λ e. subst (λ x. HasStep standard (switch_start nice Idle (pos 0)) (switch_event nice x)) (sym e)
      (switch_step nice Idle (pos 1365333333) (pos 0) (pos 0) refl 1000000 (omega (arith, ints), omega (arith, ints))
      (omega (arith, ints), omega (arith, ints)) (can_charge_idle nice)
      (least_second nice Idle (pos 1365333333) refl (omega (arith, ints))) (omega (arith, ints)))),
)

pub pick_lem : PickExample
pick_lem granularity = (
  (λ s. let h = picked_at (pos 0) Normal (pos 4000000) (pos 5000000) (pos 4000000) refl
      (pos 4000000) granularity s.0 s.1 in omega (arith, ints)),
  (λ h. switch_step (pos 0) Normal (pos 4000000) (pos 5000000) (pos 4000000) refl granularity
      (omega (arith, ints), omega (arith, ints)) (omega (arith, ints), omega (arith, ints))
      (can_charge_even (pos 5000000)) least_first (omega (arith, ints))),
)
