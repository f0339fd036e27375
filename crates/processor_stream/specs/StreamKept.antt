-- What the stream of one processor keeps: its part of what a record keeps (this project's profile).
use Rattle.std.specs.Prelude.{◌≡◌, ℕ, ◌<◌, ◌≤◌, List, [], ◌∷◌, Some, All, AllPairs}
use Rattle.cfs_model.specs.Charge.{IsInRange}
use Rattle.cfs_model.specs.Nice.{IsNice}
use Rattle.replay_model.specs.Cut.{StreamView}
use Rattle.cfs_model.specs.declared.claim.Claim.{Claim}
use Rattle.cfs_model.specs.declared.nice_line.NiceLine.{NiceLine}
use Rattle.cfs_model.specs.declared.charge_line.ChargeLine.{ChargeLine}
use Rattle.replay_model.specs.declared.step.Deed.{Deed}
use Rattle.replay_model.specs.declared.step.Deed.TheVariants.{Switch, Wake, Born, Leave, Arrive}
use Rattle.replay_model.specs.declared.step.Step.{Step}
use Rattle.cfs_model.specs.declared.task.Place.TheVariants.{Run}

-- the pids of a deed that can't be the idle task's
abbrev pub tasks_of_deed : Deed → List ℕ
tasks_of_deed (Switch prev prev_nice way next next_nice) = []
tasks_of_deed (Wake pid nice) = pid ∷ []
tasks_of_deed (Born pid nice policy) = pid ∷ []
tasks_of_deed (Leave pid nice dest) = pid ∷ []
tasks_of_deed (Arrive pid nice orig policy) = pid ∷ []

-- a step's claim stands on its line, with a virtual runtime in range
pub record OwnsClaim (step : Step) (claim : Claim) : Type 0 where
  pub line : claim.line ≡ step.line
  pub in_range : IsInRange claim.v

-- a step's change of a nice value stands on its line, with a value in range
pub record OwnsNice (step : Step) (change : NiceLine) : Type 0 where
  pub line : change.line ≡ step.line
  pub in_range : IsNice change.nice

-- a step's told charge stands on its line, with a virtual runtime in range
pub record OwnsCharge (step : Step) (charge : ChargeLine) : Type 0 where
  pub line : charge.line ≡ step.line
  pub in_range : IsInRange charge.v

-- what every stream keeps
pub record IsStream (s : StreamView) : Type 0 where
  pub here : All (λ task. task.cpu ≡ s.cpu) s.tasks
  pub runtimes : All (λ task. IsInRange task.v) s.tasks
  pub pids_rise : AllPairs (λ t u. t.pid < u.pid) s.tasks
  pub one_runs : AllPairs (λ t u. t.place ≡ Run → u.place ≡ Run → ⊥) s.tasks
  pub floor : IsInRange s.floor
  pub lines_rise : AllPairs (λ a b. a.line < b.line) s.steps
  pub lines_within : All (λ step. step.line ≤ s.last_line) s.steps
  pub never_falls : AllPairs (λ a b. a.time ≤ b.time) s.steps
  pub times_within : All (λ step. (s.start ≤ step.time) × (step.time ≤ s.last_time)) s.steps
  pub no_idle : All (λ step. All (λ pid. 0 < pid) (tasks_of_deed step.deed)) s.steps
  pub claims : All (λ step. (claim : Claim) → step.claim ≡ Some claim → OwnsClaim step claim) s.steps
  pub nices : All (λ step. (change : NiceLine) → step.nice ≡ Some change → OwnsNice step change) s.steps
  pub charges : All (λ step. (charge : ChargeLine) → step.charge ≡ Some charge → OwnsCharge step charge) s.steps
