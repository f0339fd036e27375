-- Shared by the worked examples: who stands in a start of one or two tasks, and what a lift there asks of every pid,
-- asked of those alone.
use Rattle.std.proofs.Common.{◌≡◌, ℕ, ◌≤◌, true, false, Option, Some, ℤ, pos, ◌+ℤ◌, ◌≤ℤ◌, ◌⊎◌, inl, inr, [], ◌∷◌, sym}
use Rattle.std.proofs.Common.{ap, ap₂, ◌∙◌, subst, true≢false}
use Rattle.cfs_model.specs.Limits.{greatest_runtime}
use Rattle.cfs_model.specs.Machine.{Machine, Stands}
use Rattle.cfs_model.specs.Start.{named_in}
use Rattle.cfs_model.specs.Lifted.{cost_at, CanCharge}
use Rattle.cfs_model.proofs.StartOrder.{or_cases, names, names_is}
use Rattle.cfs_model.specs.declared.task.Place.{Place}
use Rattle.cfs_model.specs.declared.task.Place.TheVariants.{Run}
use Rattle.cfs_model.specs.declared.task.Task.{Task}

-- who stands in a start of one task
pub of_one : (t : Task) (place : Place) (cpu pid : ℕ) → named_in (t ∷ []) place cpu pid ≡ true → (t.pid ≡ pid)
    × (t.cpu ≡ cpu) × (t.place ≡ place)
of_one t place cpu pid h = elim
    (or_cases (names place cpu pid t) false h) [
      | inl x ↦ names_is place cpu pid t x
      | inr x ↦ absurd
          (true≢false (sym x))
    ]

-- and of two
pub of_two : (t u : Task) (place : Place) (cpu pid : ℕ) → named_in (t ∷ u ∷ []) place cpu pid ≡ true
    → ((t.pid ≡ pid) × (t.cpu ≡ cpu) × (t.place ≡ place)) ⊎ ((u.pid ≡ pid) × (u.cpu ≡ cpu) × (u.place ≡ place))
of_two t u place cpu pid h =
    elim (or_cases (names place cpu pid t) (named_in (u ∷ []) place cpu pid) h) [
      | inl x ↦ inl (names_is place cpu pid t x)
      | inr x ↦ inr (of_one u place cpu pid x)
    ]

-- a value read at a pid that is known
pub value_at : (f : ℕ → Option ℤ) (pid other : ℕ) (v w : ℤ) → pid ≡ other → f pid ≡ Some v → f other ≡ Some w → v ≡ w
value_at f pid other v w e g h = let k : f pid ≡ Some w = ap f e ∙ h in cc

-- what is below a value read there is below it
pub below_at : (f : ℕ → Option ℤ) (pid other : ℕ) (u v w : ℤ) → pid ≡ other → f pid ≡ Some v → f other ≡ Some w
    → u ≤ℤ v → u ≤ℤ w
below_at f pid other u v w e g h le = subst (λ x. u ≤ℤ x) (value_at f pid other v w e g h) le

-- a charge where one known task runs
pub can_charge_one : (m : Machine) (cpu time pid : ℕ) (nice v : ℤ) → ((q : ℕ) → Stands m Run cpu q → pid ≡ q)
    → m.nice pid ≡ Some nice → m.runtime pid ≡ Some v
    → cost_at m cpu time nice (m.policy pid) ≤ greatest_runtime
    → (v +ℤ pos (cost_at m cpu time nice (m.policy pid))) ≤ℤ pos greatest_runtime → CanCharge m cpu time
can_charge_one m cpu time pid nice v one e f low high q n w runs g h =
    let cost_is = ap₂ (λ p x. cost_at m cpu time x (m.policy p)) (one q runs)
    (value_at m.nice pid q nice n (one q runs) e g) in (
      subst (λ c. c ≤ greatest_runtime) cost_is low,
      subst (λ c. (w +ℤ pos c) ≤ℤ pos greatest_runtime) cost_is
          (subst (λ x. (x +ℤ pos (cost_at m cpu time nice (m.policy pid))) ≤ℤ pos greatest_runtime)
          (value_at m.runtime pid q v w (one q runs) f h) high),
    )

-- and where nobody runs
pub can_charge_none : (m : Machine) (cpu time : ℕ) → ((q : ℕ) → ¬ Stands m Run cpu q) → CanCharge m cpu time
can_charge_none m cpu time none q n w runs g h = absurd (none q runs)
