-- The task of a pid in a list of tasks, and what the list says of a pid.
use Rattle.std.proofs.Common.{◌≡◌, ◌≢◌, ℕ, zero, suc, eqb, List, [], ◌∷◌, ◌++◌, Contains, Option, Some, None}
use Rattle.std.proofs.Common.{option_map, ◌⊎◌, refl, sym, inl, inr, ap, ◌∙◌, subst, arith}
use Rattle.std.proofs.lemmas.Bool.{eq-eqb, ne_eqb, cond-true, cond-false, cases_eq}
use Rattle.std.proofs.lemmas.Option.{same_Some}
use Rattle.cfs_model.specs.Machine.{put}
use Rattle.cfs_model.specs.Start.{task_of}
use Rattle.cfs_model.specs.declared.task.Task.{Task}
use Rattle.replay_model.specs.Part.{Entity}
use Rattle.runqueue.specs.Tasks.{entity_from}
use Rattle.cfs_model.proofs.Moves.{put-same, put-other}

-- the task of the first pid, and of another
pub task_of-first : (t : Task) (tasks : List Task) (pid : ℕ) → t.pid ≡ pid → task_of (t ∷ tasks) pid ≡ Some t
task_of-first t tasks pid e = cond-true (eqb t.pid pid) (Some t) (task_of tasks pid) (eq-eqb _ _ e)

pub task_of-later : (t : Task) (tasks : List Task) (pid : ℕ) → t.pid ≢ pid → task_of (t ∷ tasks) pid ≡ task_of tasks pid
task_of-later t tasks pid ne = cond-false (eqb t.pid pid) (Some t) (task_of tasks pid) (ne_eqb _ _ ne)

-- the task of a pid has this pid, and what holds of each task
pub task_of-pid : (tasks : List Task) (pid : ℕ) (t : Task) → task_of tasks pid ≡ Some t → t.pid ≡ pid
task_of-pid [] pid t e = cc
task_of-pid (x ∷ xs) pid t e =
    elim (cases_eq x.pid pid) [
      | inl same ↦ let f = sym (task_of-first x xs pid same)
          ∙ e in let g = same_Some x t f in subst (λ (u : Task). u.pid ≡ pid) g same
      | inr other ↦ task_of-pid xs pid t (sym (task_of-later x xs pid other) ∙ e)
    ]

-- there is none, or one
pub option_cases : {A : Type 0} (o : Option A) → (o ≡ None) ⊎ ((x : A) × (o ≡ Some x))
option_cases None = inl refl
option_cases (Some x) = inr (x, refl)

-- what a list of tasks says of a pid
abbrev pub stands : List Task → ℕ → Option Entity
stands tasks pid = option_map entity_from (task_of tasks pid)

-- one more task
task_of-push : (tasks : List Task) (t : Task) (q : ℕ) → q ≢ t.pid → task_of (tasks ++ t ∷ []) q ≡ task_of tasks q
task_of-push [] t q ne = task_of-later t [] q (λ e. ne (sym e))
task_of-push (x ∷ xs) t q ne =
    elim (cases_eq x.pid q) [
      | inl same ↦ task_of-first x (xs ++ t ∷ []) q same ∙ sym (task_of-first x xs q same)
      | inr other ↦ task_of-later x (xs ++ t ∷ []) q other ∙ task_of-push xs t q ne ∙ sym (task_of-later x xs q other)
    ]

task_of-pushed : (tasks : List Task) (t : Task) → task_of tasks t.pid ≡ None → task_of (tasks ++ t ∷ []) t.pid ≡ Some t
task_of-pushed [] t e = task_of-first t [] t.pid refl
task_of-pushed (x ∷ xs) t e =
    elim (cases_eq x.pid t.pid) [
      | inl same ↦ let f : Some x ≡ None = sym (task_of-first x xs t.pid same) ∙ e in absurd cc
      | inr other ↦ task_of-later x (xs ++ t ∷ []) t.pid other
          ∙ task_of-pushed xs t (sym (task_of-later x xs t.pid other) ∙ e)
    ]

pub stands_pushed : (tasks : List Task) (t : Task) → task_of tasks t.pid ≡ None → (q : ℕ)
    → stands (tasks ++ t ∷ []) q ≡ put (stands tasks) t.pid (Some (entity_from t)) q
stands_pushed tasks t e q =
    elim (cases_eq q t.pid) [
      | inl same ↦ subst (λ x. stands (tasks ++ t ∷ []) x ≡ put (stands tasks) t.pid (Some (entity_from t)) x) (sym
          same)
          (ap (option_map entity_from) (task_of-pushed tasks t e)
          ∙ sym (put-same (stands tasks) t.pid (Some (entity_from t))))
      | inr other ↦ ap (option_map entity_from) (task_of-push tasks t q other)
          ∙ sym (put-other (stands tasks) t.pid _ q other)
    ]

-- the task of a pid is in the list
pub contains : (tasks : List Task) (pid : ℕ) (t : Task) → task_of tasks pid ≡ Some t → Contains tasks t
contains [] pid t e = cc
contains (x ∷ xs) pid t e =
    elim (cases_eq x.pid pid) [
      | inl same ↦ (zero, omega arith, same_Some x t (sym (task_of-first x xs pid same) ∙ e))
      | inr other ↦ let c = contains xs pid t (sym (task_of-later x xs pid other) ∙ e) in
          (suc c.0, (let h = c.1 in omega arith), c.2)
    ]
