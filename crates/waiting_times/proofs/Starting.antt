-- The row of a task at the start, and where the task stands there.
use Rattle.std.proofs.Common.{◌≡◌, ◌≢◌, ℕ, ◌<◌, true, false, Option, Some, None, cond, eqb, ℤ, inl, inr, List, [], ◌∷◌}
use Rattle.std.proofs.Common.{refl, sym, ap, ◌∙◌, subst, arith}
use Rattle.std.proofs.lemmas.Bool.{eq-eqb, ne_eqb}
use Rattle.std.specs.List.{AllByRecursion}
use Rattle.cfs_model.specs.Machine.{Machine, Stands}
use Rattle.cfs_model.specs.Order.{PidsRise}
use Rattle.cfs_model.specs.Start.{named_in, start_machine, task_of}
use Rattle.cfs_model.proofs.Moves.{same_or_not}
use Rattle.cfs_model.proofs.StartOrder.{named_task, task_named}
use Rattle.cfs_model.specs.declared.task.Place.{Place}
use Rattle.cfs_model.specs.declared.task.Place.TheVariants.{Run, Wait as WaitPlace, Rest}
use Rattle.cfs_model.specs.declared.task.Task.{Task}
use Rattle.waiting_times.specs.Rows.{at_start, fresh, only, stand_by, standing_row}
use Rattle.waiting_times.specs.declared.moment.Moment.{Moment}
use Rattle.waiting_times.specs.declared.task_row.Stand.{Stand}
use Rattle.waiting_times.specs.declared.task_row.Stand.TheVariants.{Away, Runs, Waits}
use Rattle.waiting_times.specs.declared.task_row.TaskRow.{TaskRow}
use Rattle.waiting_times.proofs.Standing.{StandIs}
use Rattle.waiting_times.proofs.Turning.{only_other, only_same}

-- where a task stands by the task found by its pid
abbrev pub stand_found : Moment → Option Task → Stand → Stand
stand_found start None stand = stand
stand_found start (Some t) stand = stand_by start t.place

none_above : (n : ℕ) (tasks : List Task) → AllByRecursion (λ (u : Task). n < u.pid) tasks → task_of tasks n ≡ None
none_above n [] above = refl
none_above n (t ∷ tasks) above =
    let a = above.0 in
    let ne : t.pid ≡ n → ⊥ = λ e. absurd (omega arith) in
    ap (λ b. cond b (Some t) (task_of tasks n)) (ne_eqb t.pid n ne) ∙ none_above n tasks above.1

-- the row at the start is a new one that stands so
pub start_is : (start : Moment) (tasks : List Task) → PidsRise tasks → (row : TaskRow) (pid : ℕ)
    → at_start start tasks row pid ≡ standing_row (stand_found start (task_of tasks pid) row.stand) row
start_is start [] rise row pid = refl
start_is start (t ∷ tasks) rise row pid = elim (same_or_not pid t.pid) [
  | inl e ↦
      let stand = stand_by start t.place in
      let none : task_of tasks pid ≡ None = subst (λ q. task_of tasks q ≡ None) (sym e)
      (none_above t.pid tasks rise.0) in
      ap (λ r. at_start start tasks r pid) (only_same pid t.pid (standing_row stand) row e)
      ∙ start_is start tasks rise.1 (standing_row stand row) pid
      ∙ ap (λ o. standing_row (stand_found start o stand) row) none
      ∙ ap (λ b. standing_row (stand_found start (cond b (Some t) (task_of tasks pid)) row.stand) row)
      (sym (eq-eqb t.pid pid (sym e)))
  | inr ne ↦
      ap (λ r. at_start start tasks r pid)
      (only_other pid t.pid (standing_row (stand_by start t.place)) row ne)
      ∙ start_is start tasks rise.1 row pid
      ∙ ap (λ b. standing_row (stand_found start (cond b (Some t) (task_of tasks pid)) row.stand) row)
      (sym (ne_eqb t.pid pid (λ e. ne (sym e))))
]

module _ (start : ℕ) (floors : List ℤ) (tasks : List Task) (rise : PidsRise tasks) (pid : ℕ) where
  abbrev pub first : Machine
  first = start_machine start floors tasks

  at_place : (place : Place) (cpu : ℕ) → Stands first place cpu pid
      → (t : Task) × (task_of tasks pid ≡ Some t) × (t.place ≡ place)
  at_place Run cpu h = let found = named_task tasks rise Run cpu pid h in (found.0, found.1, found.3)
  at_place WaitPlace cpu h = let found = named_task tasks rise WaitPlace cpu pid h in (found.0, found.1, found.3)
  at_place Rest cpu h = let found = named_task tasks rise Rest cpu pid h in (found.0, found.1, found.3)

  not_there : (place : Place) (cpu : ℕ) → task_of tasks pid ≡ None → ¬ Stands first place cpu pid
  not_there place cpu none h = let found = at_place place cpu h in let e = found.1 in cc

  not_at : (t : Task) (place : Place) → task_of tasks pid ≡ Some t → t.place ≢ place → (cpu : ℕ)
      → ¬ Stands first place cpu pid
  not_at t place is ne cpu h =
      let found = at_place place cpu h in
      let e = found.1 in
      let same : found.0 ≡ t = cc in
      ne (sym (ap (λ (u : Task). u.place) same) ∙ found.2)

  named_at : (t : Task) → task_of tasks pid ≡ Some t → (place : Place) → t.place ≡ place
      → named_in tasks place t.cpu pid ≡ true
  named_at t is place there =
      subst (λ p. named_in tasks p t.cpu pid ≡ true) there (task_named tasks pid t is)

  stand_at : (moment : Moment) (t : Task) → task_of tasks pid ≡ Some t → (place : Place) → t.place ≡ place
      → StandIs pid first (stand_by moment place)
  stand_at moment t is Run there = (t.cpu, named_at t is Run there)
  stand_at moment t is WaitPlace there = (t.cpu, named_at t is WaitPlace there)
  stand_at moment t is Rest there = (
    not_at t Run is (λ e. let f = sym there ∙ e in cc),
    not_at t WaitPlace is (λ e. let f = sym there ∙ e in cc),
  )

  -- where the row says that the task stands, it stands
  pub start_stands : (moment : Moment) (o : Option Task) → task_of tasks pid ≡ o
      → StandIs pid first (stand_found moment o Away)
  start_stands moment None is = ((λ cpu. not_there Run cpu is), (λ cpu. not_there WaitPlace cpu is))
  start_stands moment (Some t) is = stand_at moment t is t.place refl
