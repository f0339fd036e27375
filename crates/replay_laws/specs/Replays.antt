-- What the replay of a processor's cut of a run says of the machine (this project's profile).
use Rattle.std.specs.Prelude.{◌≡◌, ℕ, None, ℤ, ◌↔◌, List, ◌∷◌}
use Rattle.cfs_model.specs.Knobs.{KnobsView}
use Rattle.cfs_model.specs.Start.{start_machine}
use Rattle.cfs_model.specs.Claimed.{Claimed}
use Rattle.cfs_model.specs.Run.{times_of, IsRun, last_of}
use Rattle.cfs_model.specs.Order.{IsStart}
use Rattle.replay_model.specs.Part.{part_of}
use Rattle.replay_model.specs.QueueTests.{IsIdleTooLong}
use Rattle.replay_model.specs.Page.{ReplayStateView}
use Rattle.replay_model.specs.Cause.{SlackFails}
use Rattle.replay_model.specs.Record.{TimesRise}
use Rattle.replay_laws.specs.CutReplay.{IsCutReplay}
use Rattle.cfs_model.specs.declared.task.Task.{Task}

-- while the events are a run, no step of a processor's replay fails, and the processor's part is the replay's
abbrev pub ReplayFollows : Type 0
ReplayFollows = (knobs : KnobsView) (start : ℕ) (floors : List ℤ) (tasks : List Task) (events : List Claimed)
    (cpu : ℕ) (last : ReplayStateView)
    → IsStart floors tasks → TimesRise start events
    → (run : IsRun knobs start (start_machine start floors tasks) events)
    → IsCutReplay knobs start floors tasks events cpu last
    → (last.page.fault ≡ None) × (part_of (last_of (start_machine start floors tasks) run.states) cpu ≡ last.part)

-- then the slack fails with one more event just where the replay has idled for too long at its time
abbrev pub SlackFollows : Type 0
SlackFollows = (knobs : KnobsView) (start : ℕ) (floors : List ℤ) (tasks : List Task) (events : List Claimed)
    (cpu : ℕ) (last : ReplayStateView) (time : ℕ)
    → IsStart floors tasks → TimesRise start events
    → (run : IsRun knobs start (start_machine start floors tasks) events)
    → IsCutReplay knobs start floors tasks events cpu last
    → SlackFails knobs.slack (times_of start events) (start_machine start floors tasks ∷ run.states) cpu time
    ↔ IsIdleTooLong knobs.slack last.since time 0
