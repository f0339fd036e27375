-- What one change of a machine does to a task's waiting and to its row: nothing, a wait begins, one ends, or the task
-- goes from one other place to another.
use Rattle.std.proofs.Common.{◌≡◌, ◌≢◌, ℕ, zero, suc, ◌⊎◌, ◌↔◌, inl, inr, refl, sym, ap, ◌∙◌, subst, cond, eqb}
use Rattle.std.specs.Prelude.{⊤}
use Rattle.std.proofs.lemmas.Bool.{eq-eqb, ne_eqb}
use Rattle.cfs_model.specs.Machine.{Machine, Stands, NobodyStands, with_move, without_task, without_values}
use Rattle.cfs_model.specs.Step.{IsCurrent, IsPick, after_prev, after_next}
use Rattle.cfs_model.proofs.Moves.{IsPutAt, IsGone, leave_gone, move_placed, same_or_not}
use Rattle.cfs_model.proofs.KeptOrder.{IsApart, same_sets}
use Rattle.cfs_model.proofs.StepOrder.{alone, gone_same}
use Rattle.cfs_model.specs.declared.act.Way.{Way}
use Rattle.cfs_model.specs.declared.act.Way.TheVariants.{Stays, Sleeps, Ends}
use Rattle.cfs_model.specs.declared.task.Place.{Place}
use Rattle.cfs_model.specs.declared.task.Place.TheVariants.{Run, Wait, Rest}
use Rattle.waiting_times.specs.Rows.{left_by, only, picked_by, picked_row, stand_left, standing_row}
use Rattle.waiting_times.specs.Waits.{IsWaiting}
use Rattle.waiting_times.specs.declared.moment.Moment.{Moment}
use Rattle.waiting_times.specs.declared.task_row.Stand.{Stand}
use Rattle.waiting_times.specs.declared.task_row.Stand.TheVariants.{Away, Runs, Waits}
use Rattle.waiting_times.specs.declared.task_row.TaskRow.{TaskRow}
use Rattle.waiting_times.proofs.Standing.{StandIs, Unmoved, unmoved_none, unmoved_both, unmoved_put, unmoved_gone}
use Rattle.waiting_times.proofs.Standing.{unmoved_stand, unmoved_waiting, not_placed, running_waits_not, stand_waits}

-- whether the place is another than waiting
abbrev pub IsOther : Stand → Type 0
IsOther Away = ⊤
IsOther Runs = ⊤
IsOther (Waits since) = ⊥

abbrev pub Stays-as : ℕ → Machine → Machine → TaskRow → TaskRow → Type 0
Stays-as pid m after row now = (now ≡ row) × (IsWaiting pid m ↔ IsWaiting pid after)

abbrev pub Begins : Moment → ℕ → Machine → Machine → TaskRow → TaskRow → Type 0
Begins at pid m after row now =
    (¬ IsWaiting pid m) × IsWaiting pid after × (now ≡ standing_row (Waits at) row)

abbrev pub Finishes : Moment → ℕ → Machine → Machine → TaskRow → TaskRow → Type 0
Finishes at pid m after row now =
    ((since : Moment) × (row.stand ≡ Waits since)) × (¬ IsWaiting pid after) × (now ≡ picked_row at row)

abbrev pub Moves : ℕ → Machine → Machine → TaskRow → TaskRow → Type 0
Moves pid m after row now =
    (¬ IsWaiting pid m) × (¬ IsWaiting pid after) × (stand : Stand) × IsOther stand × (now ≡ standing_row stand row)

pub record Turned (at : Moment) (pid : ℕ) (m after : Machine) (row now : TaskRow) : Type 0 where
  pub turn : Stays-as pid m after row now ⊎ Begins at pid m after row now ⊎ Finishes at pid m after row now
      ⊎ Moves pid m after row now
  pub stand : StandIs pid after now.stand

pub stand_to : (pid : ℕ) (m : Machine) (row now : TaskRow) → now ≡ row → StandIs pid m row.stand
    → StandIs pid m now.stand
stand_to pid m row now e s = subst (λ (r : TaskRow). StandIs pid m r.stand) (sym e) s

-- who isn't moved keeps the row
pub unmoved_turned : (at : Moment) (pid : ℕ) (m after : Machine) (row now : TaskRow) → Unmoved pid m after → now ≡ row
    → StandIs pid m row.stand → Turned at pid m after row now
unmoved_turned at pid m after row now u e s = record {
  turn = inl (e, unmoved_waiting pid m after u);
  stand = stand_to pid after row now e (unmoved_stand pid m after row.stand u s);
}

-- a change of one pid's row, at that pid and at another
pub only_same : (pid other : ℕ) (f : TaskRow → TaskRow) (row : TaskRow) → pid ≡ other → only pid other f row ≡ f row
only_same pid other f row e = ap (λ b. cond b (f row) row) (eq-eqb pid other e)

pub only_other : (pid other : ℕ) (f : TaskRow → TaskRow) (row : TaskRow) → pid ≢ other → only pid other f row ≡ row
only_other pid other f row ne = ap (λ b. cond b (f row) row) (ne_eqb pid other ne)

-- the previous task of a switch, and any other
abbrev pub PrevTurn : Moment → ℕ → ℕ → Machine → Machine → TaskRow → TaskRow → Type 0
PrevTurn at pid prev m mid row now =
    (Unmoved pid m mid × (now ≡ row))
    ⊎ ((pid ≡ prev) × ((cpu : ℕ) × Stands m Run cpu pid) × (stand : Stand) × (now ≡ standing_row stand row)
    × StandIs pid mid stand × ((stand ≡ Waits at) ⊎ (stand ≡ Away)))

module _ (at : Moment) (m mid : Machine) (cpu n : ℕ) (runs : Stands m Run cpu (suc n)) (stand : Stand)
    (is : StandIs (suc n) mid stand) (ok : (stand ≡ Waits at) ⊎ (stand ≡ Away))
    (others : (q : ℕ) → q ≢ suc n → Unmoved q m mid) where
  prev_with : (pid : ℕ) (row : TaskRow)
      → PrevTurn at pid (suc n) m mid row (only pid (suc n) (standing_row stand) row)
  prev_with pid row = elim (same_or_not pid (suc n)) [
    | inl e ↦ inr (
      e,
      (cpu, subst (λ q. Stands m Run cpu q) (sym e) runs),
      stand,
      only_same pid (suc n) (standing_row stand) row e,
      subst (λ q. StandIs q mid stand) (sym e) is,
      ok,
    )
    | inr ne ↦ inl (others pid ne, only_other pid (suc n) (standing_row stand) row ne)
  ]

pub prev_turn : (at : Moment) (m : Machine) → IsApart m → (cpu prev : ℕ) (way : Way) → IsCurrent m cpu prev
    → (pid : ℕ) (row : TaskRow)
    → PrevTurn at pid prev m (after_prev m cpu prev way) row (left_by pid at way prev row)
prev_turn at m a cpu zero way current pid row = inl (unmoved_none pid m, refl)
prev_turn at m a cpu (suc n) Stays current pid row =
    let mid = with_move m (suc n) Run cpu Wait cpu in
    let p = move_placed m (suc n) Run cpu Wait cpu (alone m a Run cpu (suc n) current) in
    prev_with at m mid cpu n current (Waits at) (cpu, p.itself) (inl refl) (unmoved_put m mid (suc n) Wait cpu p)
    pid row
prev_turn at m a cpu (suc n) Sleeps current pid row =
    let mid = with_move m (suc n) Run cpu Rest cpu in
    let p = move_placed m (suc n) Run cpu Rest cpu (alone m a Run cpu (suc n) current) in
    prev_with at m mid cpu n current Away
    (not_placed m mid (suc n) Rest cpu p Run (λ e. cc), not_placed m mid (suc n) Rest cpu p Wait (λ e. cc))
    (inr refl) (unmoved_put m mid (suc n) Rest cpu p) pid row
prev_turn at m a cpu (suc n) Ends current pid row =
    let between = without_task m Run cpu (suc n) in
    let mid = without_values between (suc n) in
    let g = gone_same m between mid (suc n) (same_sets between mid refl refl refl) (leave_gone m (suc n) Run cpu
    (alone m a Run cpu (suc n) current)) in
    prev_with at m mid cpu n current Away
    ((λ c h. (g.cases Run c (suc n) h).0 refl), (λ c h. (g.cases Wait c (suc n) h).0 refl))
    (inr refl) (unmoved_gone m mid (suc n) g) pid row

-- the next one, and any other
abbrev pub NextTurn : Moment → ℕ → ℕ → Machine → Machine → TaskRow → TaskRow → Type 0
NextTurn at pid next mid after row now =
    (Unmoved pid mid after × (now ≡ row))
    ⊎ ((pid ≡ next) × IsWaiting pid mid × ((cpu : ℕ) × Stands after Run cpu pid) × (¬ IsWaiting pid after)
    × (now ≡ picked_row at row))

pub next_turn : (at : Moment) (granularity : ℕ) (mid : Machine) → IsApart mid → (cpu next : ℕ)
    → IsPick granularity mid cpu next → (pid : ℕ) (row : TaskRow)
    → NextTurn at pid next mid (after_next mid cpu next) row (picked_by pid at next row)
next_turn at granularity mid a cpu zero pick pid row = inl (unmoved_none pid mid, refl)
next_turn at granularity mid a cpu (suc n) pick pid row =
    let after = with_move mid (suc n) Wait cpu Run cpu in
    let p = move_placed mid (suc n) Wait cpu Run cpu (alone mid a Wait cpu (suc n) pick.2) in
    elim (same_or_not pid (suc n)) [
      | inl e ↦ inr (
        e,
        (cpu, subst (λ q. Stands mid Wait cpu q) (sym e) pick.2),
        (cpu, subst (λ q. Stands after Run cpu q) (sym e) p.itself),
        (λ w. not_placed mid after (suc n) Run cpu p Wait (λ f. cc) w.0
            (subst (λ q. Stands after Wait w.0 q) e w.1)),
        only_same pid (suc n) (picked_row at) row e,
      )
      | inr ne ↦ inl (unmoved_put mid after (suc n) Run cpu p pid ne, only_other pid (suc n) (picked_row at) row ne)
    ]

-- a switch as a whole
pub switch_turned : (at : Moment) (pid prev next : ℕ) (m mid after : Machine) (row left now : TaskRow) → IsApart m
    → prev ≢ next → PrevTurn at pid prev m mid row left → NextTurn at pid next mid after left now
    → StandIs pid m row.stand → Turned at pid m after row now
switch_turned at pid prev next m mid after row left now a differ (inl u) (inl v) s =
    unmoved_turned at pid m after row now (unmoved_both pid m mid after u.0 v.0) (v.1 ∙ u.1) s
switch_turned at pid prev next m mid after row left now a differ (inr p) (inl v) s =
    let e : now ≡ standing_row p.2 row = v.1 ∙ p.3 in
    let stand : StandIs pid after now.stand =
    stand_to pid after (standing_row p.2 row) now e (unmoved_stand pid mid after p.2 v.0 p.4) in
    record {
      turn = elim p.5 [
        | inl waits ↦ inr (inl (
          running_waits_not m a pid p.1.0 p.1.1,
          subst (StandIs pid after) waits (unmoved_stand pid mid after p.2 v.0 p.4),
          e ∙ ap (λ t. standing_row t row) waits,
        ))
        | inr away ↦ inr (inr (inr (
          running_waits_not m a pid p.1.0 p.1.1,
          (λ w. (subst (StandIs pid after) away (unmoved_stand pid mid after p.2 v.0 p.4)).1 w.0 w.1),
          Away,
          tt,
          e ∙ ap (λ t. standing_row t row) away,
        )))
      ];
      stand = stand;
    }
switch_turned at pid prev next m mid after row left now a differ (inl u) (inr w) s =
    let e : now ≡ picked_row at row = w.4 ∙ ap (picked_row at) u.1 in
    record {
      turn = inr (inr (inl (
        stand_waits m a pid w.1.0 row.stand (u.0.came Wait w.1.0 w.1.1) s,
        w.3,
        e,
      )));
      stand = stand_to pid after (picked_row at row) now e w.2;
    }
switch_turned at pid prev next m mid after row left now a differ (inr p) (inr w) s =
    absurd (differ (sym p.0 ∙ w.0))

-- what is said from one machine is said from another in which the task stands as there
pub turned_from : (at : Moment) (pid : ℕ) (before m after : Machine) (row now : TaskRow) → Unmoved pid before m
    → Turned at pid m after row now → Turned at pid before after row now
turned_from at pid before m after row now u t =
    let iff = unmoved_waiting pid before m u in
    record {
      turn = elim t.turn [
        | inl x ↦ inl (x.0, ((λ w. x.1.0 (iff.0 w)), (λ w. iff.1 (x.1.1 w))))
        | inr y ↦ elim y [
          | inl x ↦ inr (inl ((λ w. x.0 (iff.0 w)), x.1, x.2))
          | inr z ↦ elim z [
            | inl x ↦ inr (inr (inl x))
            | inr x ↦ inr (inr (inr ((λ w. x.0 (iff.0 w)), x.1, x.2, x.3, x.4)))
          ]
        ]
      ];
      stand = t.stand;
    }
