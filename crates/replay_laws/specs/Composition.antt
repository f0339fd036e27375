-- What the replays of all processors together make of the events (this project's profile).
use Rattle.std.specs.Prelude.{ℕ, ◌<◌, ℤ, List}
use Rattle.std.specs.List.{AllByRecursion}
use Rattle.cfs_model.specs.Knobs.{KnobsView}
use Rattle.cfs_model.specs.Start.{start_machine}
use Rattle.cfs_model.specs.Claimed.{Claimed}
use Rattle.cfs_model.specs.Run.{IsRun}
use Rattle.replay_model.specs.Noted.{PageView}
use Rattle.replay_model.specs.Page.{ReplayStateView}
use Rattle.replay_model.specs.Roll.{BirthsAreNew, named}
use Rattle.replay_model.specs.Record.{IsRecord}
use Rattle.replay_model.specs.Tickets.{TicketsAgree}
use Rattle.replay_laws.specs.CutReplay.{IsDone, PassesCut}
use Rattle.cfs_model.specs.declared.task.Task.{Task}

-- where each processor's replay of its steps among some events passes, the tickets of each migration agree and each
-- birth is new, the events are a run
abbrev pub CutsCompose : Type 0
CutsCompose = (knobs : KnobsView) (start : ℕ) (floors : List ℤ) (tasks : List Task) (events : List Claimed)
    (cpus : ℕ) (last : ℕ → ReplayStateView)
    → IsRecord start floors tasks events cpus
    → ((cpu : ℕ) → cpu < cpus → PassesCut knobs start floors tasks events cpu (last cpu))
    → AllByRecursion (λ event. TicketsAgree (λ cpu. (last cpu).page) event.entry.line event.entry.act) events
    → BirthsAreNew (named tasks) events
    → IsRun knobs start (start_machine start floors tasks) events

-- where the pages of all processors are done without a fault, the tickets of each migration agree and each birth is
-- new, the events are a run
abbrev pub PagesCompose : Type 0
PagesCompose = (knobs : KnobsView) (start : ℕ) (floors : List ℤ) (tasks : List Task) (events : List Claimed)
    (cpus : ℕ) (pages : ℕ → PageView)
    → IsRecord start floors tasks events cpus
    → ((cpu : ℕ) → cpu < cpus → IsDone knobs start floors tasks events cpu (pages cpu))
    → AllByRecursion (λ event. TicketsAgree pages event.entry.line event.entry.act) events
    → BirthsAreNew (named tasks) events
    → IsRun knobs start (start_machine start floors tasks) events
