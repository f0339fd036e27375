-- What the pages of all processors together say of a record: that it is a run, or where and why it is none (this
-- project's profile).
use Rattle.std.specs.Prelude.{◌≡◌, ℕ, ◌<◌, ◌≤◌, ℤ, None, List, ◌∷◌, ◌++◌, length}
use Rattle.cfs_model.specs.Knobs.{KnobsView}
use Rattle.cfs_model.specs.Start.{start_machine}
use Rattle.cfs_model.specs.Claimed.{Claimed}
use Rattle.cfs_model.specs.Run.{IsRun}
use Rattle.replay_model.specs.Cut.{steps_at}
use Rattle.replay_model.specs.Noted.{PageView}
use Rattle.replay_model.specs.Record.{IsRecord}
use Rattle.replay_model.specs.Roll.{named, roll_of}
use Rattle.replay_model.specs.Cause.{FaultCause, IsFirstFault}
use Rattle.replay_laws.specs.Telling.{IsCauseOf, SayNothing}
use Rattle.replay_laws.specs.Sufficing.{SufficesAmong}
use Rattle.cfs_model.specs.declared.task.Task.{Task}

-- where the pages of all processors suffice and say nothing against any event, none has a fault, and each is by all
-- steps
abbrev pub SilentPagesAreDone : Type 0
SilentPagesAreDone = (knobs : KnobsView) (start : ℕ) (floors : List ℤ) (tasks : List Task) (events : List Claimed)
    (cpus : ℕ) (pages : ℕ → PageView)
    → IsRecord start floors tasks events cpus
    → (suffice : (cpu : ℕ) → cpu < cpus → SufficesAmong knobs start floors tasks events cpus pages cpu)
    → SayNothing pages cpus tasks events
    → (cpu : ℕ) → (below : cpu < cpus)
    → ((pages cpu).fault ≡ None) × (length (steps_at cpu events) ≤ (suffice cpu below).made)

-- then the events are a run
abbrev pub PagesTellRun : Type 0
PagesTellRun = (knobs : KnobsView) (start : ℕ) (floors : List ℤ) (tasks : List Task) (events : List Claimed)
    (cpus : ℕ) (pages : ℕ → PageView)
    → IsRecord start floors tasks events cpus
    → ((cpu : ℕ) → cpu < cpus → SufficesAmong knobs start floors tasks events cpus pages cpu)
    → SayNothing pages cpus tasks events
    → IsRun knobs start (start_machine start floors tasks) events

-- where they say nothing against the events before one, the first thing that they say against that one is what is wrong
-- with it, and it is the first event up to which the events are no run
abbrev pub PagesTellFault : Type 0
PagesTellFault = (knobs : KnobsView) (start : ℕ) (floors : List ℤ) (tasks : List Task)
    (events before rest : List Claimed)
    (event : Claimed) (cpus : ℕ) (pages : ℕ → PageView) (cause : FaultCause)
    → IsRecord start floors tasks events cpus
    → ((cpu : ℕ) → cpu < cpus → SufficesAmong knobs start floors tasks events cpus pages cpu)
    → events ≡ before ++ event ∷ rest
    → SayNothing pages cpus tasks before
    → IsCauseOf pages cpus (roll_of (named tasks) before) event cause
    → IsFirstFault knobs start (start_machine start floors tasks) events event.entry.line cause
