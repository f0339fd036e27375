-- How the needs of all processors tell the least settings at which a record is a run (this project's profile).
use Rattle.std.specs.Prelude.{ℕ, ◌<◌, ℤ, ◌↔◌, List}
use Rattle.std.specs.List.{AllByRecursion}
use Rattle.cfs_model.specs.Knobs.{KnobsView}
use Rattle.cfs_model.specs.Start.{start_machine}
use Rattle.cfs_model.specs.Claimed.{Claimed}
use Rattle.cfs_model.specs.Least.{AtMost, AreLeast}
use Rattle.replay_model.specs.Cut.{cut}
use Rattle.replay_model.specs.Noted.{PageView}
use Rattle.replay_model.specs.Page.{ReplayStateView, PassesStep}
use Rattle.replay_model.specs.Record.{IsRecord}
use Rattle.replay_model.specs.Tickets.{TicketsAgree}
use Rattle.replay_model.specs.Roll.{BirthsAreNew, named}
use Rattle.replay_model.specs.Needs.{IsPageNeeding, PassesNeeding, largest}
use Rattle.cfs_model.specs.declared.task.Task.{Task}
use Rattle.replay_model.specs.declared.step.Step.{Step}

-- a step that passes under some settings passes under others just where these are at least what it needs
abbrev pub PassesFromNeeds : Type 0
PassesFromNeeds = (knobs other : KnobsView) (cpu : ℕ) (before : ReplayStateView) (step : Step) (after : ReplayStateView)
    (needs : KnobsView)
    → PassesNeeding knobs cpu before step after needs
    → PassesStep other cpu before step after ↔ AtMost needs other

-- where the replays of all processors of a record pass, with these pages and needs, the tickets of each migration agree
-- and each birth is new, the largest needs are the least settings at which the events are a run
abbrev pub PagesTellLeast : Type 0
PagesTellLeast = (knobs : KnobsView) (start : ℕ) (floors : List ℤ) (tasks : List Task) (events : List Claimed)
    (cpus : ℕ) (pages : ℕ → PageView) (needs : ℕ → KnobsView)
    → IsRecord start floors tasks events cpus
    → ((cpu : ℕ) → cpu < cpus → IsPageNeeding (cut start floors tasks events cpu) knobs (pages cpu) (needs cpu))
    → AllByRecursion (λ event. TicketsAgree pages event.entry.line event.entry.act) events
    → BirthsAreNew (named tasks) events
    → AreLeast start (start_machine start floors tasks) events (largest needs cpus)
