-- What a step of the machine does to a task's waiting and to its row.
use Rattle.std.proofs.Common.{◌≡◌, ℕ, Option, None, ℤ, pos, ◌+ℤ◌, ◌-ℤ◌, ◌⊎◌, inl, inr, List, [], ◌∷◌, refl}
use Rattle.std.proofs.Common.{sym, ap, ◌∙◌, subst}
use Rattle.cfs_model.specs.Knobs.{KnobsView}
use Rattle.cfs_model.specs.Machine.{Machine, pairs_of, Stands, with_drift, with_move, with_nice, with_policy}
use Rattle.cfs_model.specs.Machine.{with_runtime, with_task}
use Rattle.cfs_model.specs.Claimed.{Claimed}
use Rattle.cfs_model.specs.Lifted.{IsLifted}
use Rattle.cfs_model.specs.Reniced.{IsReniced, home_of}
use Rattle.cfs_model.specs.Touch.{touched}
use Rattle.cfs_model.specs.Order.{IsInOrder}
use Rattle.cfs_model.specs.Step.{Changes, IsBirth, IsMigration, IsStep, IsSwitch, IsWakeQueued, IsWakeResting, MovesBy}
use Rattle.cfs_model.specs.Step.{after_next, after_prev}
use Rattle.cfs_model.proofs.Moves.{IsPutAt, join_placed, move_placed, same_or_not}
use Rattle.cfs_model.proofs.KeptOrder.{IsApart, lifted_apart, same_sets}
use Rattle.cfs_model.proofs.Renice.{reniced_apart, reniced_is}
use Rattle.cfs_model.proofs.StepOrder.{alone, apart_of, placed_same, prev_apart}
use Rattle.cfs_model.proofs.ToldCharge.{lifted_pairs}
use Rattle.cfs_model.specs.declared.act.Act.{Act}
use Rattle.cfs_model.specs.declared.act.Act.TheVariants.{Switch, Wake, Born, Shift}
use Rattle.cfs_model.specs.declared.act.Way.{Way}
use Rattle.cfs_model.specs.declared.charge_line.ChargeLine.{ChargeLine}
use Rattle.cfs_model.specs.declared.claim.Claim.{Claim}
use Rattle.cfs_model.specs.declared.claim.ClaimSort.{ClaimSort}
use Rattle.cfs_model.specs.declared.claim.ClaimSort.TheVariants.{At, Pass}
use Rattle.cfs_model.specs.declared.nice_line.NiceLine.{NiceLine}
use Rattle.cfs_model.specs.declared.policy.Policy.{Policy}
use Rattle.cfs_model.specs.declared.task.Place.{Place}
use Rattle.cfs_model.specs.declared.task.Place.TheVariants.{Run, Wait as WaitPlace, Rest}
use Rattle.waiting_times.specs.Rows.{act_on, left_by, only, picked_by, standing_row, woken_by, woken_row}
use Rattle.waiting_times.specs.Waits.{IsWaiting}
use Rattle.waiting_times.specs.declared.moment.Moment.{Moment}
use Rattle.waiting_times.specs.declared.task_row.Stand.{Stand}
use Rattle.waiting_times.specs.declared.task_row.Stand.TheVariants.{Away, Runs, Waits}
use Rattle.waiting_times.specs.declared.task_row.TaskRow.{TaskRow}
use Rattle.waiting_times.proofs.Standing.{StandIs, unmoved_none, unmoved_put, unmoved_sets, unmoved_stand, not_placed}
use Rattle.waiting_times.proofs.Standing.{resting_waits_not, stand_runs, stand_waits, stand_rests}
use Rattle.waiting_times.proofs.Turning.{Turned, next_turn, only_other, only_same, prev_turn, stand_to, switch_turned}
use Rattle.waiting_times.proofs.Turning.{turned_from, unmoved_turned}

-- neither charges nor a change of a nice value change who stands where
lifts_pairs : (bound time : ℕ) (charge : Option ChargeLine) (cpus : List ℕ) (m after : Machine)
    → IsLifted bound time charge cpus m after → (r : Place) → pairs_of after r ≡ pairs_of m r
lifts_pairs bound time charge [] m after l r = ap (λ (x : Machine). pairs_of x r) l
lifts_pairs bound time charge (cpu ∷ cpus) m after l r =
    lifts_pairs bound time None cpus l.0 after l.2 r ∙ lifted_pairs bound time charge cpu m l.0 l.1 r

reniced_pairs : (cpu : ℕ) (change : Option NiceLine) (m after : Machine) → IsReniced cpu change m after → (r : Place)
    → pairs_of after r ≡ pairs_of m r
reniced_pairs cpu change m after r Run = ap (λ (x : Machine). x.running) (reniced_is cpu change m after r)
reniced_pairs cpu change m after r WaitPlace = ap (λ (x : Machine). x.waiting) (reniced_is cpu change m after r)
reniced_pairs cpu change m after r Rest = ap (λ (x : Machine). x.resting) (reniced_is cpu change m after r)

module _ (at : Moment) (m : Machine) (a : IsApart m) where
  switch_step : (knobs : KnobsView) (cpu prev : ℕ) (prev_nice : ℤ) (way : Way) (next : ℕ) (next_nice : ℤ)
      (claim : Option Claim) (after : Machine)
      → IsSwitch knobs m cpu prev prev_nice way next next_nice claim after → (pid : ℕ) (row : TaskRow)
      → StandIs pid m row.stand
      → Turned at pid m after row (picked_by pid at next (left_by pid at way prev row))
  switch_step knobs cpu prev prev_nice way next next_nice claim after s pid row stands =
      let mid = after_prev m cpu prev way in
      let left = left_by pid at way prev row in
      let apart = prev_apart m cpu prev way a s.current in
      subst (λ x. Turned at pid m x row (picked_by pid at next left)) (sym s.result)
      (switch_turned at pid prev next m mid (after_next mid cpu next) row left (picked_by pid at next left) a s.differ
      (prev_turn at m a cpu prev way s.current pid row)
      (next_turn at knobs.granularity mid apart.0 cpu next s.pick pid left) stands)

  -- who runs or waits keeps the row when woken
  queued_row : (other : ℕ) (row : TaskRow) (cpu : ℕ) → (Stands m Run cpu other ⊎ Stands m WaitPlace cpu other)
      → StandIs other m row.stand → woken_row at row ≡ row
  queued_row other row cpu (inl runs) stands =
      ap (λ s. woken_by s at row) (stand_runs m a other cpu row.stand runs stands)
  queued_row other row cpu (inr waits) stands =
      ap (λ s. woken_by s at row) (stand_waits m a other cpu row.stand waits stands).1

  queued_step : (cpu other : ℕ) (nice : ℤ) (claim : Option Claim) (after : Machine)
      → IsWakeQueued m cpu other nice claim after → (pid : ℕ) (row : TaskRow) → StandIs pid m row.stand
      → Turned at pid m after row (only pid other (woken_row at) row)
  queued_step cpu other nice claim after s pid row stands =
      subst (λ x. Turned at pid m x row (only pid other (woken_row at) row)) (sym s.result)
      (unmoved_turned at pid m m row (only pid other (woken_row at) row) (unmoved_none pid m)
      (elim (same_or_not pid other) [
        | inl e ↦ only_same pid other (woken_row at) row e
            ∙ queued_row other row cpu s.queued (subst (λ q. StandIs q m row.stand) e stands)
        | inr ne ↦ only_other pid other (woken_row at) row ne
      ]) stands)

  -- who comes to wait from elsewhere begins a wait
  begun_step : (other cpu : ℕ) (after : Machine) → IsPutAt m after other WaitPlace cpu → (¬ IsWaiting other m)
      → (f : TaskRow → TaskRow) (row : TaskRow) → f row ≡ standing_row (Waits at) row
      → Turned at other m after row (f row)
  begun_step other cpu after p none f row is = record {
    turn = inr (inl (none, (cpu, p.itself), is));
    stand = stand_to other after (standing_row (Waits at) row) (f row) is (cpu, p.itself);
  }

  put_step : (other : ℕ) (to : Place) (dest : ℕ) (after : Machine) → IsPutAt m after other to dest
      → (f : TaskRow → TaskRow) (pid : ℕ) (row : TaskRow)
      → (StandIs other m row.stand → Turned at other m after row (f row)) → StandIs pid m row.stand
      → Turned at pid m after row (only pid other f row)
  put_step other to dest after p f pid row here stands = elim (same_or_not pid other) [
    | inl e ↦ subst (λ q. Turned at q m after row (only pid other f row)) (sym e)
        (subst (Turned at other m after row) (sym (only_same pid other f row e))
        (here (subst (λ q. StandIs q m row.stand) e stands)))
    | inr ne ↦ unmoved_turned at pid m after row (only pid other f row) (unmoved_put m after other to dest p pid ne)
        (only_other pid other f row ne) stands
  ]

  resting_step : (knobs : KnobsView) (cpu other : ℕ) (nice : ℤ) (claim : Option Claim) (after : Machine)
      → IsWakeResting knobs m cpu other nice claim after → (pid : ℕ) (row : TaskRow) → StandIs pid m row.stand
      → Turned at pid m after row (only pid other (woken_row at) row)
  resting_step knobs cpu other nice claim after s pid row stands =
      let between = with_move m other Rest cpu WaitPlace cpu in
      let last = with_runtime between other s.placed in
      let p = placed_same m between last other WaitPlace cpu (same_sets between last refl refl refl)
      (move_placed m other Rest cpu WaitPlace cpu (alone m a Rest cpu other s.rests)) in
      subst (λ x. Turned at pid m x row (only pid other (woken_row at) row)) (sym s.result)
      (put_step other WaitPlace cpu last p (woken_row at) pid row
      (λ here. begun_step other cpu last p (resting_waits_not m a other cpu s.rests) (woken_row at) row
      (ap (λ t. woken_by t at row) (stand_rests m a other cpu row.stand s.rests here))) stands)

  birth_step : (knobs : KnobsView) (cpu other : ℕ) (nice : ℤ) (claim : Option Claim) (policy : Policy)
      (after : Machine) → IsBirth knobs m cpu other nice claim policy after → (pid : ℕ) (row : TaskRow)
      → StandIs pid m row.stand → Turned at pid m after row (only pid other (standing_row (Waits at)) row)
  birth_step knobs cpu other nice claim policy after s pid row stands =
      let between = with_task m WaitPlace cpu other in
      let last = with_drift (with_policy (with_nice (with_runtime between other s.placed) other nice) other policy)
      other (pos 0) in
      let p = placed_same m between last other WaitPlace cpu (same_sets between last refl refl refl)
      (join_placed m other WaitPlace cpu s.nowhere) in
      subst (λ x. Turned at pid m x row (only pid other (standing_row (Waits at)) row)) (sym s.result)
      (put_step other WaitPlace cpu last p (standing_row (Waits at)) pid row
      (λ here. begun_step other cpu last p (λ w. s.nowhere WaitPlace w.0 w.1) (standing_row (Waits at)) row refl)
      stands)

  -- a task that moves waits there if it waited here, and rests there if it rested
  moved_here : (place : Place) (sort : ClaimSort) → MovesBy place sort → (orig dest other : ℕ) (after : Machine)
      → Stands m place orig other → IsPutAt m after other place dest → (row : TaskRow) → StandIs other m row.stand
      → Turned at other m after row row
  moved_here Run At moves orig dest other after stands p row is = absurd moves
  moved_here Run Pass moves orig dest other after stands p row is = absurd moves
  moved_here WaitPlace Pass moves orig dest other after stands p row is = absurd moves
  moved_here Rest At moves orig dest other after stands p row is = absurd moves
  moved_here WaitPlace At moves orig dest other after stands p row is = record {
    turn = inl (refl, ((λ w. (dest, p.itself)), (λ w. (orig, stands))));
    stand = subst (StandIs other after) (sym (stand_waits m a other orig row.stand stands is).1) (dest, p.itself);
  }
  moved_here Rest Pass moves orig dest other after stands p row is =
      let none = not_placed m after other Rest dest p WaitPlace (λ e. cc) in
      record {
        turn = inl (
          refl,
          ((λ w. absurd (resting_waits_not m a other orig stands w)), (λ w. absurd (none w.0 w.1))),
        );
        stand = subst (StandIs other after) (sym (stand_rests m a other orig row.stand stands is))
            (not_placed m after other Rest dest p Run (λ e. cc), none);
      }

  migration_step : (orig dest other : ℕ) (nice : ℤ) (claim : Option Claim) (policy : Policy) (after : Machine)
      → IsMigration m orig dest other nice claim policy after → (pid : ℕ) (row : TaskRow)
      → StandIs pid m row.stand → Turned at pid m after row row
  migration_step orig dest other nice claim policy after s pid row stands =
      let between = with_move m other s.place orig s.place dest in
      let v = (s.own -ℤ m.floor orig) +ℤ m.floor dest in
      let last = with_drift (with_runtime between other v) other (pos 0) in
      let p = placed_same m between last other s.place dest (same_sets between last refl refl refl)
      (move_placed m other s.place orig s.place dest (alone m a s.place orig other s.stands)) in
      subst (λ x. Turned at pid m x row row) (sym s.result)
      (elim (same_or_not pid other) [
        | inl e ↦ subst (λ q. Turned at q m last row row) (sym e)
            (moved_here s.place s.sort s.moves orig dest other last s.stands p row
            (subst (λ q. StandIs q m row.stand) e stands))
        | inr ne ↦ unmoved_turned at pid m last row row (unmoved_put m last other s.place dest p pid ne) refl stands
      ])

  change_turned : (knobs : KnobsView) (act : Act) (claim : Option Claim) (policy : Policy) (after : Machine)
      → Changes knobs m act claim policy after → (pid : ℕ) (row : TaskRow) → StandIs pid m row.stand
      → Turned at pid m after row (act_on pid at act row)
  change_turned knobs (Switch cpu prev prev_nice way next next_nice) claim policy after s pid row stands =
      switch_step knobs cpu prev prev_nice way next next_nice claim after s pid row stands
  change_turned knobs (Wake cpu other nice) claim policy after (inl s) pid row stands =
      queued_step cpu other nice claim after s pid row stands
  change_turned knobs (Wake cpu other nice) claim policy after (inr s) pid row stands =
      resting_step knobs cpu other nice claim after s pid row stands
  change_turned knobs (Born cpu other nice) claim policy after s pid row stands =
      birth_step knobs cpu other nice claim policy after s pid row stands
  change_turned knobs (Shift orig dest other nice) claim policy after s pid row stands =
      migration_step orig dest other nice claim policy after s pid row stands

pub step_turned : (at : Moment) (knobs : KnobsView) (before : Machine) (event : Claimed) (after : Machine)
    → IsInOrder before → IsStep knobs before event after → (pid : ℕ) (row : TaskRow) → StandIs pid before row.stand
    → Turned at pid before after row (act_on pid at event.entry.act row)
step_turned at knobs before event after o s pid row stands =
    let cpus = touched event.entry.act in
    let home = home_of event.entry.act in
    let lifted = lifted_apart knobs.drift event.entry.time event.charge cpus before s.lifted s.is_lifted
    (apart_of before o) in
    let apart = reniced_apart home event.nice s.lifted s.found s.is_reniced lifted in
    let sets : (r : Place) → pairs_of s.found r ≡ pairs_of before r = λ r.
    reniced_pairs home event.nice s.lifted s.found s.is_reniced r
    ∙ lifts_pairs knobs.drift event.entry.time event.charge cpus before s.lifted s.is_lifted r in
    let u = unmoved_sets pid before s.found sets in
    turned_from at pid before s.found after row (act_on pid at event.entry.act row) u
    (change_turned at s.found apart knobs event.entry.act event.claim event.policy after s.changes pid row
    (unmoved_stand pid before s.found row.stand u stands))
