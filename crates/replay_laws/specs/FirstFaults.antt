-- The first fault beside a run and its first bad line (this project's profile).
use Rattle.std.specs.Prelude.{◌≡◌, ℕ, ℤ, List}
use Rattle.cfs_model.specs.Knobs.{KnobsView}
use Rattle.cfs_model.specs.Start.{start_machine}
use Rattle.cfs_model.specs.Claimed.{Claimed}
use Rattle.cfs_model.specs.Run.{IsRun, IsFirstBad}
use Rattle.cfs_model.specs.Order.{IsStart}
use Rattle.replay_model.specs.Cause.{FaultCause, IsFirstFault}
use Rattle.cfs_model.specs.declared.task.Task.{Task}

-- a first fault is at the first bad line
abbrev pub FaultIsFirstBad : Type 0
FaultIsFirstBad = (knobs : KnobsView) (start : ℕ) (floors : List ℤ) (tasks : List Task) (events : List Claimed)
    (line : ℕ) (cause : FaultCause)
    → IsFirstFault knobs start (start_machine start floors tasks) events line cause
    → IsFirstBad knobs start (start_machine start floors tasks) events line

-- a run has no first fault
abbrev pub RunHasNoFault : Type 0
RunHasNoFault = (knobs : KnobsView) (start : ℕ) (floors : List ℤ) (tasks : List Task) (events : List Claimed)
    (line : ℕ) (cause : FaultCause)
    → IsRun knobs start (start_machine start floors tasks) events
    → ¬ IsFirstFault knobs start (start_machine start floors tasks) events line cause

-- there is at most one first fault: one line and one cause
abbrev pub OneFirstFault : Type 0
OneFirstFault = (knobs : KnobsView) (start : ℕ) (floors : List ℤ) (tasks : List Task) (events : List Claimed)
    (line other : ℕ) (cause why : FaultCause)
    → IsStart floors tasks
    → IsFirstFault knobs start (start_machine start floors tasks) events line cause
    → IsFirstFault knobs start (start_machine start floors tasks) events other why
    → (line ≡ other) × (cause ≡ why)
