-- The first half of the examples of a birth with and without the idle policy: a task ends, and one of its pid is born,
-- at no cost. Which policy the first was of, and which the second is of, are parameters; who stands where is the same.
use Rattle.std.proofs.Common.{◌≡◌, ℕ, Some, None, pos}
use Rattle.std.proofs.Common.{inl, inr, [], ◌∷◌, refl, sym, arith, lit<, lit≤}
use Rattle.std.proofs.lemmas.Int.{ints}
use Rattle.cfs_model.specs.Machine.{Machine, Stands, AreValuesInRange, put, with_floor, with_task}
use Rattle.cfs_model.specs.Machine.{without_task, with_runtime, with_nice, without_values, with_policy, with_drift}
use Rattle.cfs_model.specs.Claimed.{Claimed}
use Rattle.cfs_model.specs.Lifted.{charged, CanCharge, IsLeast, IsLifted}
use Rattle.cfs_model.specs.Step.{IsSwitch, IsBirth, IsStep}
use Rattle.cfs_model.specs.Order.{IsStart}
use Rattle.cfs_model.specs.Examples.{standard, start_time, at_claim, rebirth_tasks, rebirth_start}
use Rattle.cfs_model.proofs.Moves.{IsGone, IsPutAt, join_placed, leave_gone}
use Rattle.cfs_model.proofs.StartOrder.{start_in_order}
use Rattle.cfs_model.proofs.Range.{lifted_range, change_range}
use Rattle.cfs_model.proofs.Worked.{of_two, below_at, can_charge_one, can_charge_none}
use Rattle.cfs_model.specs.declared.act.Act.TheVariants.{Switch, Born}
use Rattle.cfs_model.specs.declared.act.Way.TheVariants.{Ends}
use Rattle.cfs_model.specs.declared.task.Place.{Place}
use Rattle.cfs_model.specs.declared.task.Place.TheVariants.{Run, Wait, Rest}
use Rattle.cfs_model.specs.declared.task.Task.{Task}
use Rattle.cfs_model.specs.declared.policy.Policy.{Policy}
use Rattle.cfs_model.specs.declared.policy.Policy.TheVariants.{Normal, Idle}

abbrev runner : Policy → Task
runner was = record { pid = 101; nice = pos 0; policy = was; cpu = 0; place = Run; v = pos 0 }

abbrev sleeper : Task
sleeper = record { pid = 102; nice = pos 0; policy = Normal; cpu = 0; place = Rest; v = pos 0 }

start_is : (was : Policy) → IsStart (pos 0 ∷ []) (rebirth_tasks was)
start_is was = record {
  pids_rise = ((lit< tt, tt), (tt, tt));
  one_runs = (((λ t. let e = t.1 in cc), tt), (tt, tt));
  runtimes_in_range = ((omega (arith, ints), omega (arith, ints)), ((omega (arith, ints), omega (arith, ints)), tt));
  floors_in_range = ((omega (arith, ints), omega (arith, ints)), tt);
}

pub start_range : (was : Policy) → AreValuesInRange (rebirth_start was)
start_range was = (start_in_order start_time (pos 0 ∷ []) (rebirth_tasks was) (start_is was)).in_range

pub nobody_waits : (was : Policy) (cpu q : ℕ) → ¬ Stands (rebirth_start was) Wait cpu q
nobody_waits was cpu q h = elim (of_two (runner was) sleeper Wait cpu q h) [
  | inl x ↦ let e = x.2 in cc
  | inr x ↦ let e = x.2 in cc
]

pub runs_one : (was : Policy) (cpu q : ℕ) → Stands (rebirth_start was) Run cpu q → 101 ≡ q
runs_one was cpu q h = elim (of_two (runner was) sleeper Run cpu q h) [ inl x ↦ x.0 | inr x ↦ let e = x.2 in cc ]

-- the first task is charged nothing at the start
free : (was : Policy) → CanCharge (rebirth_start was) 0 start_time
free Idle = can_charge_one (rebirth_start Idle) 0 start_time 101 (pos 0) (pos 0) (runs_one Idle 0) refl refl (lit≤ tt)
    (omega (arith, ints))
free Normal = can_charge_one (rebirth_start Normal) 0 start_time 101 (pos 0) (pos 0) (runs_one Normal 0) refl refl
    (lit≤ tt) (omega (arith, ints))

stays_at_zero : (was : Policy) → (charged (rebirth_start was) 0 start_time).runtime 101 ≡ Some (pos 0)
stays_at_zero Idle = refl
stays_at_zero Normal = refl

module _ (was : Policy) where
  -- the end
  abbrev pub first_event : Claimed
  first_event = record {
    entry = record { line = 1; time = start_time; act = Switch 0 101 (pos 0) Ends 0 (pos 0) };
    claim = None;
    nice = None;
    charge = None;
    policy = Normal;
  }

  abbrev first_lifted : Machine
  first_lifted = with_floor (charged (rebirth_start was) 0 start_time) 0 (pos 0)

  abbrev pub first_state : Machine
  first_state = without_values (without_task first_lifted Run 0 101) 101

  first_least : IsLeast (charged (rebirth_start was) 0 start_time) 0 (pos 0)
  first_least = record {
    pid = 101;
    queued = inl refl;
    runtime = stays_at_zero was;
    least = λ q w h e. elim h [
      | inl x ↦ below_at (charged (rebirth_start was) 0 start_time).runtime 101 q (pos 0) (pos 0) w
          (runs_one was 0 q x) (stays_at_zero was) e (omega (arith, ints))
      | inr x ↦ absurd (nobody_waits was 0 q x)
    ];
  }

  first_lift : IsLifted 0 start_time None (0 ∷ []) (rebirth_start was) first_lifted
  first_lift = (
    first_lifted,
    record {
      can_charge = free was;
      told = charged (rebirth_start was) 0 start_time;
      charges = refl;
      floor = pos 0;
      raised = inr (pos 0, first_least, refl);
      result = refl;
    },
    refl,
  )

  pub first_step : IsStep standard (rebirth_start was) first_event first_state
  first_step =
      let changes : IsSwitch standard first_lifted 0 101 (pos 0) Ends 0 (pos 0) None first_state = record {
        differ = λ e. omega arith;
        current = refl;
        prev_prio = refl;
        next_prio = tt;
        put_back = refl;
        pick = nobody_waits was 0;
        result = refl;
      } in
      record {
        lifted = first_lifted;
        is_lifted = first_lift;
        found = first_lifted;
        is_reniced = refl;
        changes = changes;
        in_range = change_range standard first_lifted first_event.entry.act None Normal first_state changes tt
            (lifted_range 0 start_time None (0 ∷ []) (rebirth_start was) first_lifted first_lift tt (start_range was));
      }

  -- 101 stood at the processor alone, so it stands nowhere now
  was_alone : (r : Place) (d : ℕ) → Stands first_lifted r d 101 → (r ≡ Run) × (d ≡ 0)
  was_alone Run d h = elim (of_two (runner was) sleeper Run d 101 h) [
    | inl x ↦ (refl, sym x.1)
    | inr x ↦ let e = x.2 in absurd cc
  ]
  was_alone Wait d h = absurd (nobody_waits was d 101 h)
  was_alone Rest d h = elim (of_two (runner was) sleeper Rest d 101 h) [
    | inl x ↦ let e = x.2 in absurd cc
    | inr x ↦ let e = x.0 in absurd (omega arith)
  ]

  gone : IsGone first_lifted (without_task first_lifted Run 0 101) 101
  gone = leave_gone first_lifted 101 Run 0 was_alone

  -- the birth
  abbrev pub second_lifted : Machine
  second_lifted = with_floor (charged first_state 0 start_time) 0 (pos 0)

  nowhere : (r : Place) (d : ℕ) → ¬ Stands second_lifted r d 101
  nowhere Run d h = (gone.cases Run d 101 h).0 refl
  nowhere Wait d h = (gone.cases Wait d 101 h).0 refl
  nowhere Rest d h = (gone.cases Rest d 101 h).0 refl

  pub nobody_runs : (d q : ℕ) → ¬ Stands second_lifted Run d q
  nobody_runs d q h = let x = gone.cases Run d q h in x.0 (sym (runs_one was d q x.1))

  second_lift : IsLifted 0 start_time None (0 ∷ []) first_state second_lifted
  unfolding put
  second_lift = (
    second_lifted,
    record {
      can_charge = can_charge_none first_state 0 start_time (nobody_runs 0);
      told = charged first_state 0 start_time;
      charges = refl;
      floor = pos 0;
      raised = inl ((λ q h. elim h [ inl x ↦ nobody_runs 0 q x | inr x ↦ nobody_waits was 0 q x ]), refl);
      result = refl;
    },
    refl,
  )

  module _ (now : Policy) where
    abbrev pub second_event : Claimed
    second_event = record {
      entry = record { line = 2; time = start_time; act = Born 0 101 (pos 5) };
      claim = Some (at_claim 2 101 (pos 0));
      nice = None;
      charge = None;
      policy = now;
    }

    abbrev pub second_state : Machine
    second_state =
        with_drift
        (with_policy (with_nice (with_runtime (with_task second_lifted Wait 0 101) 101 (pos 0)) 101 (pos 5)) 101 now)
        101
        (pos 0)

    pub second_step : IsStep standard first_state second_event second_state
    unfolding put
    second_step =
        let changes : IsBirth standard second_lifted 0 101 (pos 5) second_event.claim now second_state = record {
          nowhere = nowhere;
          placed = pos 0;
          claimed = (refl, refl, refl);
          from = omega (arith, ints);
          to = omega (arith, ints);
          result = refl;
        } in
        record {
          lifted = second_lifted;
          is_lifted = second_lift;
          found = second_lifted;
          is_reniced = refl;
          changes = changes;
          in_range = change_range standard second_lifted second_event.entry.act second_event.claim now second_state
              changes (omega (arith, ints), omega (arith, ints))
              (lifted_range 0 start_time None (0 ∷ []) first_state second_lifted second_lift tt first_step.in_range);
        }

    -- 101 alone waits, and nobody runs
    pub joined : IsPutAt second_lifted (with_task second_lifted Wait 0 101) 101 Wait 0
    joined = join_placed second_lifted 101 Wait 0 nowhere

    pub waits_one : (d q : ℕ) → Stands second_state Wait d q → 101 ≡ q
    waits_one d q h = elim (joined.cases Wait d q h) [ inl x ↦ sym x.0 | inr x ↦ absurd (nobody_waits was d q x.1) ]
