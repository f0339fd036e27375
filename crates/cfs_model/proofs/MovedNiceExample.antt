-- The examples of a change of a nice value on a migration's line: the lift is that of the migration without it, and the
-- new value is found at the origin; at the destination the task that is named doesn't stand where it has to.
use Rattle.std.proofs.Common.{◌≡◌, true, Some, None, ℤ, pos, ◌+ℤ◌, ◌-ℤ◌, inl, inr, [], ◌∷◌, refl, sym, ap}
use Rattle.std.proofs.Common.{◌∙◌, subst, arith}
use Rattle.std.proofs.lemmas.Int.{ints}
use Rattle.cfs_model.specs.Machine.{Machine, Stands, put, put_pair, with_floor, with_move, with_nice, with_runtime}
use Rattle.cfs_model.specs.Machine.{with_drift}
use Rattle.cfs_model.specs.Start.{named_in}
use Rattle.cfs_model.specs.Lifted.{charged, IsLifted}
use Rattle.cfs_model.specs.Reniced.{IsReniced}
use Rattle.cfs_model.specs.Step.{IsMigration, IsStep}
use Rattle.cfs_model.specs.Examples.{standard, HasStep, start_time, migration_start, renicing_migration}
use Rattle.cfs_model.specs.Examples.{MovedNiceExample, away_start, AwayNiceExample}
use Rattle.cfs_model.proofs.MigrationExample.{lifted, lift, task_that_waits, task_that_runs, start_is, can_charge_now}
use Rattle.cfs_model.proofs.MigrationExample.{least_now}
use Rattle.cfs_model.proofs.OneNext.{one_lifted}
use Rattle.cfs_model.proofs.StartOrder.{start_in_order}
use Rattle.cfs_model.proofs.ToldCharge.{untold_is}
use Rattle.cfs_model.proofs.Range.{lifted_range, change_range}
use Rattle.cfs_model.proofs.Renice.{reniced_range}
use Rattle.cfs_model.proofs.Worked.{of_two, value_at}
use Rattle.cfs_model.specs.declared.claim.ClaimSort.TheVariants.{At}
use Rattle.cfs_model.specs.declared.nice_line.NiceLine.{NiceLine}
use Rattle.cfs_model.specs.declared.task.Place.{Place}
use Rattle.cfs_model.specs.declared.task.Place.TheVariants.{Run, Wait, Rest}
use Rattle.cfs_model.specs.declared.task.Task.{Task}
use Rattle.cfs_model.specs.declared.policy.Policy.TheVariants.{Normal}

abbrev change : NiceLine
change = record { line = 1; pid = 101; nice = pos 5 }

abbrev now_lifted : Machine
now_lifted = lifted start_time (pos 3) (pos 3) (pos 102) refl refl can_charge_now least_now

now_lift : IsLifted 0 start_time None (0 ∷ 1 ∷ []) migration_start now_lifted
now_lift = lift start_time (pos 3) (pos 3) (pos 102) refl refl can_charge_now least_now

abbrev found : Machine
found = with_nice now_lifted 101 (pos 5)

renices : IsReniced 0 (Some change) now_lifted found
renices = ((Wait, refl), refl)

moved_nice_step : HasStep standard migration_start (renicing_migration 101 (pos 5) (pos 102))
unfolding put put_pair
moved_nice_step =
    let event = renicing_migration 101 (pos 5) (pos 102) in
    let after : Machine = with_drift (with_runtime (with_move found 101 Wait 0 Wait 1) 101 (pos 102)) 101 (pos 0) in
    let changes : IsMigration found 0 1 101 (pos 5) event.claim Normal after = record {
      differ = λ e. omega arith;
      place = Wait;
      stands = refl;
      prio = refl;
      policy_is = refl;
      own = pos 5;
      runtime = refl;
      sort = At;
      moves = tt;
      claimed = (refl, refl, refl);
      result = refl;
    } in (
      after,
      record {
        lifted = now_lifted;
        is_lifted = now_lift;
        found = found;
        is_reniced = renices;
        changes = changes;
        in_range = change_range standard found event.entry.act event.claim Normal after changes
            (omega (arith, ints), omega (arith, ints))
            (reniced_range 0 (Some change) now_lifted found renices
            (lifted_range 0 start_time None (0 ∷ 1 ∷ []) migration_start now_lifted now_lift tt
            (start_in_order start_time (pos 3 ∷ pos 100 ∷ []) (task_that_waits ∷ task_that_runs ∷ [])
            start_is).in_range));
      },
    )

-- any step prints the new value and places 101 there
moved_nice_at : (printed w : ℤ) (after : Machine)
    → IsStep standard migration_start (renicing_migration 101 printed w) after → (printed ≡ pos 5) × (w ≡ pos 102)
unfolding put
moved_nice_at printed w after s =
    let same : s.found ≡ found = s.is_reniced.1
    ∙ ap (λ m. with_nice m 101 (pos 5))
    (one_lifted 0 0 start_time None (0 ∷ 1 ∷ []) migration_start s.lifted now_lifted s.is_lifted now_lift) in
    let moves : IsMigration found 0 1 101 printed (renicing_migration 101 printed w).claim Normal after =
    subst (λ m. IsMigration m 0 1 101 printed (renicing_migration 101 printed w).claim Normal after) same s.changes in (
      value_at found.nice 101 101 printed (pos 5) refl moves.prio refl,
      moves.claimed.2 ∙ ap (λ own. (own -ℤ pos 3) +ℤ pos 100)
          (value_at found.runtime 101 101 moves.own (pos 5) refl moves.runtime refl),
    )

pub moved_nice_lem : MovedNiceExample
moved_nice_lem printed w = (
  (λ s. moved_nice_at printed w s.0 s.1),
  (λ h. subst (λ x. HasStep standard migration_start (renicing_migration 101 x w)) (sym h.0)
      (subst (λ x. HasStep standard migration_start (renicing_migration 101 (pos 5) x)) (sym h.1) moved_nice_step)),
)

-- 102 doesn't stand at the origin
abbrev mover : Task
mover = record { pid = 101; nice = pos 0; policy = Normal; cpu = 0; place = Wait; v = pos 5 }

abbrev away : Task
away = record { pid = 102; nice = pos 0; policy = Normal; cpu = 1; place = Run; v = pos 3 }

isnt_there : (place : Place) → named_in (mover ∷ away ∷ []) place 0 102 ≡ true → ⊥
isnt_there place h = elim (of_two mover away place 0 102 h) [
  | inl x ↦ let e = x.0 in absurd (omega arith)
  | inr x ↦ let e = x.1 in absurd (omega arith)
]

-- nor after a lift at both
still_isnt : (first second : ℤ) (place : Place)
    → ¬ Stands (with_floor (charged (with_floor (charged away_start 0 start_time) 0 first) 1 start_time) 1 second)
    place 0 102
still_isnt first second Run h = isnt_there Run h
still_isnt first second Wait h = isnt_there Wait h
still_isnt first second Rest h = isnt_there Rest h

pub away_nice_lem : AwayNiceExample
away_nice_lem printed w s =
    let lift = s.1.is_lifted in
    let stands = s.1.is_reniced.0 in
    still_isnt lift.1.floor lift.2.1.floor stands.0
    (subst (λ m. Stands m stands.0 0 102)
    (lift.2.2 ∙ untold_is 0 start_time 1 lift.0 lift.2.0 lift.2.1
    ∙ ap (λ m. with_floor (charged m 1 start_time) 1 lift.2.1.floor)
    (untold_is 0 start_time 0 away_start lift.0 lift.1)) stands.1)
