-- The order that a run keeps in a machine, and that a start which a companion names has (this project's profile).
use Rattle.std.specs.Prelude.{◌≡◌, ◌≢◌, ℕ, ◌<◌, IsSome, ℤ, ◌↔◌, List, [], ◌∷◌, ⊤}
use Rattle.std.specs.List.{AllByRecursion}
use Rattle.cfs_model.specs.Charge.{IsInRange}
use Rattle.cfs_model.specs.Machine.{Machine, Stands, AreValuesInRange}
use Rattle.cfs_model.specs.declared.task.Place.{Place}
use Rattle.cfs_model.specs.declared.task.Place.TheVariants.{Run}
use Rattle.cfs_model.specs.declared.task.Task.{Task}

-- the pid is in some place at some processor
abbrev pub StandsSomewhere : Machine → ℕ → Type 0
StandsSomewhere m pid = (place : Place) × (cpu : ℕ) × Stands m place cpu pid

-- each pid is in at most one place at one processor, at most one runs at a processor, just those that stand somewhere
-- have a virtual runtime and a nice value, and every value is in range
pub record IsInOrder (m : Machine) : Type 0 where
  pub one_place : (pid : ℕ) (place other : Place) (cpu at : ℕ)
      → Stands m place cpu pid → Stands m other at pid → (place ≡ other) × (cpu ≡ at)
  pub one_runs : (cpu pid other : ℕ) → Stands m Run cpu pid → Stands m Run cpu other → pid ≡ other
  pub runtimes : (pid : ℕ) → IsSome (m.runtime pid) ↔ StandsSomewhere m pid
  pub nices : (pid : ℕ) → IsSome (m.nice pid) ↔ StandsSomewhere m pid
  pub in_range : AreValuesInRange m

-- two tasks run at one processor
abbrev pub RunTogether : Task → Task → Type 0
RunTogether t u = (t.place ≡ Run) × (u.place ≡ Run) × (t.cpu ≡ u.cpu)

-- two tasks don't
abbrev pub RunApart : Task → Task → Type 0
RunApart t u = t.place ≡ Run → u.place ≡ Run → t.cpu ≢ u.cpu

-- the pids rise
abbrev pub PidsRise : List Task → Type 0
PidsRise [] = ⊤
PidsRise (t ∷ tasks) = AllByRecursion (λ u. t.pid < u.pid) tasks × PidsRise tasks

-- at most one task runs at a processor
abbrev pub OneRuns : List Task → Type 0
OneRuns [] = ⊤
OneRuns (t ∷ tasks) = AllByRecursion (λ u. ¬ RunTogether t u) tasks × OneRuns tasks

-- what a companion keeps of the start that it names
pub record IsStart (floors : List ℤ) (tasks : List Task) : Type 0 where
  pub pids_rise : PidsRise tasks
  pub one_runs : OneRuns tasks
  pub runtimes_in_range : AllByRecursion (λ t. IsInRange t.v) tasks
  pub floors_in_range : AllByRecursion IsInRange floors
