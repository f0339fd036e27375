-- The examples of a migration. What hangs on the time, the virtual runtime that 102 is charged to and the least one, is
-- a parameter; the second floor stays at 100, since nobody stands there.
use Rattle.std.proofs.Common.{◌≡◌, ◌↔◌, ℕ, true, Some, None, ℤ, pos, ◌+ℤ◌, ◌-ℤ◌, ◌≤ℤ◌, inl, inr, [], ◌∷◌, refl}
use Rattle.std.proofs.Common.{sym}
use Rattle.std.proofs.Common.{ap, ◌∙◌, subst, arith, lit<, lit≤}
use Rattle.std.proofs.lemmas.Int.{ints}
use Rattle.std.specs.Int.{int_max}
use Rattle.cfs_model.specs.Charge.{IsInRange}
use Rattle.cfs_model.specs.Machine.{Machine, Stands, IsQueued, put, put_pair, with_floor, with_move, with_runtime}
use Rattle.cfs_model.specs.Machine.{with_drift}
use Rattle.cfs_model.specs.Start.{named_in}
use Rattle.cfs_model.specs.Lifted.{charged, CanCharge, IsLeast, IsLifted}
use Rattle.cfs_model.specs.Step.{IsMigration, IsStep}
use Rattle.cfs_model.specs.Order.{IsStart}
use Rattle.cfs_model.specs.Examples.{standard, HasStep, start_time, migration_start, migration_event, MigrationExample}
use Rattle.cfs_model.specs.Examples.{LaterMigrationExample}
use Rattle.cfs_model.proofs.OneNext.{one_lifted}
use Rattle.cfs_model.proofs.StartOrder.{start_in_order}
use Rattle.cfs_model.proofs.Range.{lifted_range, change_range}
use Rattle.cfs_model.proofs.Worked.{of_two, value_at, below_at, can_charge_one, can_charge_none}
use Rattle.cfs_model.specs.declared.claim.ClaimSort.TheVariants.{At}
use Rattle.cfs_model.specs.declared.task.Place.{Place}
use Rattle.cfs_model.specs.declared.task.Place.TheVariants.{Run, Wait}
use Rattle.cfs_model.specs.declared.task.Task.{Task}
use Rattle.cfs_model.specs.declared.policy.Policy.TheVariants.{Normal}

abbrev pub task_that_waits : Task
task_that_waits = record { pid = 101; nice = pos 0; policy = Normal; cpu = 0; place = Wait; v = pos 5 }

abbrev pub task_that_runs : Task
task_that_runs = record { pid = 102; nice = pos 0; policy = Normal; cpu = 0; place = Run; v = pos 3 }

pub start_is : IsStart (pos 3 ∷ pos 100 ∷ []) (task_that_waits ∷ task_that_runs ∷ [])
start_is = record {
  pids_rise = ((lit< tt, tt), (tt, tt));
  one_runs = (((λ t. let e = t.0 in cc), tt), (tt, tt));
  runtimes_in_range = ((omega (arith, ints), omega (arith, ints)), ((omega (arith, ints), omega (arith, ints)), tt));
  floors_in_range = ((omega (arith, ints), omega (arith, ints)), ((omega (arith, ints), omega (arith, ints)), tt));
}

pub runs_one : (q : ℕ) → Stands migration_start Run 0 q → 102 ≡ q
runs_one q h = elim (of_two task_that_waits task_that_runs Run 0 q h) [ inl x ↦ let e = x.2 in cc | inr x ↦ x.0 ]

waits_one : (q : ℕ) → Stands migration_start Wait 0 q → 101 ≡ q
waits_one q h = elim (of_two task_that_waits task_that_runs Wait 0 q h) [ inl x ↦ x.0 | inr x ↦ let e = x.2 in cc ]

-- nobody stands at the second processor
nobody_there : (place : Place) (q : ℕ) → named_in (task_that_waits ∷ task_that_runs ∷ []) place 1 q ≡ true → ⊥
nobody_there place q h = elim (of_two task_that_waits task_that_runs place 1 q h) [
  | inl x ↦ let e = x.1 in absurd
      (omega arith)
  | inr x ↦ let e = x.1 in absurd (omega arith)
]

-- the machine after the charge at the first processor
abbrev pub after_charge : ℕ → Machine
after_charge time = charged migration_start 0 time

-- the time, the virtual runtime of 102 after its charge, the least of both, and the value where 101 goes
module _ (time : ℕ) (v least w : ℤ) (is_v : (after_charge time).runtime 102 ≡ Some v)
    (is_w : w ≡ (pos 5 -ℤ int_max (pos 3) least) +ℤ pos 100)
    (can_charge : CanCharge migration_start 0 time) (is_least : IsLeast (after_charge time) 0 least) where
  -- the machine after the first lift, and after both
  abbrev pub between : Machine
  between = with_floor (after_charge time) 0 (int_max (pos 3) least)

  abbrev pub lifted : Machine
  lifted = with_floor (charged between 1 time) 1 (pos 100)

  pub lift : IsLifted 0 time None (0 ∷ 1 ∷ []) migration_start lifted
  unfolding put
  lift = (
    between,
    record {
      can_charge = can_charge;
      told = after_charge time;
      charges = refl;
      floor = int_max (pos 3) least;
      raised = inr (least, is_least, refl);
      result = refl;
    },
    (
      lifted,
      record {
        can_charge = can_charge_none between 1 time (nobody_there Run);
        told = charged between 1 time;
        charges = refl;
        floor = pos 100;
        raised = inl ((λ q h. elim h [ inl x ↦ nobody_there Run q x | inr x ↦ nobody_there Wait q x ]), refl);
        result = refl;
      },
      refl,
    ),
  )

  migration_step : IsInRange w → HasStep standard migration_start (migration_event time w)
  unfolding put put_pair
  migration_step range =
      let after : Machine = with_drift (with_runtime (with_move lifted 101 Wait 0 Wait 1) 101
      ((pos 5 -ℤ int_max (pos 3) least) +ℤ pos 100)) 101 (pos 0) in
      let changes : IsMigration lifted 0 1 101 (pos 0) (migration_event time w).claim Normal after = record {
        differ = λ e. omega arith;
        place = Wait;
        stands = refl;
        prio = refl;
        policy_is = refl;
        own = pos 5;
        runtime = refl;
        sort = At;
        moves = tt;
        claimed = (refl, refl, is_w);
        result = refl;
      } in (
        after,
        record {
          lifted = lifted;
          is_lifted = lift;
          found = lifted;
          is_reniced = refl;
          changes = changes;
          in_range = change_range standard lifted (migration_event time w).entry.act
              (migration_event time w).claim Normal after changes range
              (lifted_range 0 time None (0 ∷ 1 ∷ []) migration_start lifted lift tt
              (start_in_order start_time (pos 3 ∷ pos 100 ∷ []) (task_that_waits ∷ task_that_runs ∷ [])
              start_is).in_range);
        },
      )

  -- any step places 101 there
  moved_to : (x : ℤ) (after : Machine) → IsStep standard migration_start (migration_event time x) after → x ≡ w
  unfolding put
  moved_to x after s =
      let same = s.is_reniced ∙ one_lifted 0 0 time None (0 ∷ 1 ∷ []) migration_start s.lifted lifted s.is_lifted
      lift in
      let moves : IsMigration lifted 0 1 101 (pos 0) (migration_event time x).claim Normal after =
      subst (λ m. IsMigration m 0 1 101 (pos 0) (migration_event time x).claim Normal after) same s.changes in
      moves.claimed.2 ∙ ap (λ own. (own -ℤ int_max (pos 3) least) +ℤ pos 100)
      (value_at lifted.runtime 101 101 moves.own (pos 5) refl moves.runtime refl) ∙ sym is_w

  migration_at : (x : ℤ) → IsInRange w → HasStep standard migration_start (migration_event time x) ↔ (x ≡ w)
  migration_at x range = (
    (λ s. moved_to x s.0 s.1),
    (λ e. subst (λ y. HasStep standard migration_start (migration_event time y)) (sym e) (migration_step range)),
  )

-- a least virtual runtime is at most those of 101 and 102
least_of : (time : ℕ) (v least : ℤ) → (after_charge time).runtime 102 ≡ Some v → least ≤ℤ v → least ≤ℤ pos 5
    → (q : ℕ) (w : ℤ) → IsQueued (after_charge time) 0 q → (after_charge time).runtime q ≡ Some w → least ≤ℤ w
least_of time v least is_v h k q w (inl x) e = below_at (after_charge time).runtime 102 q least v w (runs_one q x) is_v
    e h
least_of time v least is_v h k q w (inr x) e = below_at (after_charge time).runtime 101 q least (pos 5) w
    (waits_one q x) refl e k

pub can_charge_now : CanCharge migration_start 0 start_time
can_charge_now = can_charge_one migration_start 0 start_time 102 (pos 0) (pos 3) runs_one refl refl (lit≤ tt)
    (omega (arith, ints))

pub least_now : IsLeast (after_charge start_time) 0 (pos 3)
least_now = record {
  pid = 102;
  queued = inl refl;
  runtime = refl;
  least = least_of start_time (pos 3) (pos 3) refl
      (omega (arith, ints)) (omega (arith, ints));
}

pub migration_lem : MigrationExample
migration_lem w =
    migration_at start_time (pos 3) (pos 3) (pos 102) refl refl can_charge_now least_now w
    (omega (arith, ints), omega (arith, ints))

pub later_lem : LaterMigrationExample
later_lem w =
    migration_at 100000001000 (pos 1003) (pos 5) (pos 100) refl refl
    (can_charge_one migration_start 0 100000001000 102 (pos 0) (pos 3) runs_one refl refl (lit≤ tt)
    (omega (arith, ints)))
    (record {
      pid = 101;
      queued = inr refl;
      runtime = refl;
      least = least_of 100000001000 (pos 1003) (pos 5) refl
          (omega (arith, ints)) (omega (arith, ints));
    })
    w (omega (arith, ints), omega (arith, ints))
