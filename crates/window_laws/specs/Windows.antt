-- What the pages of a window say together: that the events with it are so far a run, or where and why they are none
-- (this project's profile).
use Rattle.std.specs.Prelude.{◌≡◌, ℕ, ◌<◌, Bool, ℤ, List, ◌∷◌, ◌++◌}
use Rattle.cfs_model.specs.Knobs.{KnobsView}
use Rattle.cfs_model.specs.Machine.{Machine}
use Rattle.cfs_model.specs.Start.{start_machine}
use Rattle.cfs_model.specs.Claimed.{Claimed}
use Rattle.replay_model.specs.Cause.{FaultCause, IsFirstFault}
use Rattle.replay_model.specs.Noted.{PageView}
use Rattle.replay_model.specs.Page.{ReplayStateView}
use Rattle.replay_model.specs.Record.{IsRecord}
use Rattle.replay_model.specs.Roll.{roll_of}
use Rattle.replay_laws.specs.Telling.{IsCauseOf}
use Rattle.window_laws.specs.Kept.{kept_of}
use Rattle.window_laws.specs.SoFar.{IsSoFar}
use Rattle.window_laws.specs.InWindow.{SufficesInWindow, SayNothingInWindow}
use Rattle.cfs_model.specs.declared.task.Task.{Task}

-- where the pages of all processors suffice in a window and say nothing against its events, what holds between windows
-- holds behind it, with what is kept of where the replays end
abbrev pub WindowPasses : Type 0
WindowPasses = (knobs : KnobsView) (start : ℕ) (floors : List ℤ) (tasks : List Task) (before window : List Claimed)
    (cpus : ℕ) (kept ends : ℕ → ReplayStateView) (alive : ℕ → Bool) (pages : ℕ → PageView)
    → IsRecord start floors tasks (before ++ window) cpus
    → IsSoFar knobs start floors tasks before cpus kept alive
    → ((cpu : ℕ) → cpu < cpus → SufficesInWindow knobs start floors tasks before window cpus kept ends pages cpu)
    → SayNothingInWindow pages cpus alive window
    → IsSoFar knobs start floors tasks (before ++ window) cpus (λ cpu. kept_of (ends cpu)) (roll_of alive window)

-- where they say nothing against the window's events before one, the first thing that they say against that one is what
-- is wrong with it, and it is the first event up to which the events are no run
abbrev pub WindowTellsFault : Type 0
WindowTellsFault = (knobs : KnobsView) (start : ℕ) (floors : List ℤ) (tasks : List Task)
    (before window fine rest : List Claimed) (event : Claimed) (cpus : ℕ) (kept ends : ℕ → ReplayStateView)
    (alive : ℕ → Bool) (pages : ℕ → PageView) (cause : FaultCause)
    → IsRecord start floors tasks (before ++ window) cpus
    → IsSoFar knobs start floors tasks before cpus kept alive
    → ((cpu : ℕ) → cpu < cpus → SufficesInWindow knobs start floors tasks before window cpus kept ends pages cpu)
    → window ≡ fine ++ event ∷ rest
    → SayNothingInWindow pages cpus alive fine
    → IsCauseOf pages cpus (roll_of alive fine) event cause
    → IsFirstFault knobs start (start_machine start floors tasks) (before ++ window) event.entry.line cause

-- the first fault of some events stays that of these and any more behind them
abbrev pub FaultStays : Type 0
FaultStays = (knobs : KnobsView) (start : ℕ) (first : Machine) (events more : List Claimed) (line : ℕ)
    (cause : FaultCause)
    → IsFirstFault knobs start first events line cause
    → IsFirstFault knobs start first (events ++ more) line cause
