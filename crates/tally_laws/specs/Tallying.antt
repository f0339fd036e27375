-- The tallies on pages beside what each task did in the run (this project's profile).
use Rattle.std.specs.Prelude.{◌≢◌, ℕ, ◌<◌, ◌≤◌, ℤ, List, length, All, AllPairs, Contains}
use Rattle.std.specs.List.{AllByRecursion}
use Rattle.cfs_model.specs.Knobs.{KnobsView}
use Rattle.cfs_model.specs.Start.{start_machine}
use Rattle.cfs_model.specs.Claimed.{Claimed}
use Rattle.cfs_model.specs.Run.{IsRun}
use Rattle.cfs_model.specs.Order.{IsStart}
use Rattle.replay_model.specs.Cut.{cut}
use Rattle.replay_model.specs.Noted.{PageView}
use Rattle.replay_model.specs.Page.{IsPageOf}
use Rattle.replay_model.specs.Record.{IsRecord}
use Rattle.replay_model.specs.Summary.{tally_of, tasks_of_run, IsSummary}
use Rattle.replay_laws.specs.Telling.{SayNothing}
use Rattle.replay_laws.specs.Sufficing.{SufficesAmong}
use Rattle.tally_laws.specs.Totals.{IsOfAtMost, TalliesAddUp, summary_by, tallies_below}
use Rattle.cfs_model.specs.declared.task.Task.{Task}

-- where the pages of all processors suffice and say nothing against any event, their tallies add up to those of the run
-- that the events are
abbrev pub PagesAddUp : Type 0
PagesAddUp = (knobs : KnobsView) (start : ℕ) (floors : List ℤ) (tasks : List Task) (events : List Claimed)
    (cpus : ℕ) (pages : ℕ → PageView)
    → IsRecord start floors tasks events cpus
    → ((cpu : ℕ) → cpu < cpus → SufficesAmong knobs start floors tasks events cpus pages cpu)
    → SayNothing pages cpus tasks events
    → (run : IsRun knobs start (start_machine start floors tasks) events)
    × TalliesAddUp (start_machine start floors tasks) events run.states pages cpus

-- so the summary by them is the summary of the run
abbrev pub PagesTellSummary : Type 0
PagesTellSummary = (knobs : KnobsView) (start : ℕ) (floors : List ℤ) (tasks : List Task) (events : List Claimed)
    (cpus : ℕ) (pages : ℕ → PageView)
    → IsRecord start floors tasks events cpus
    → ((cpu : ℕ) → cpu < cpus → SufficesAmong knobs start floors tasks events cpus pages cpu)
    → SayNothing pages cpus tasks events
    → IsSummary knobs start (start_machine start floors tasks) tasks events
    (summary_by (tallies_below pages cpus) tasks events)

-- each of their tallies is of a task of the run
abbrev pub TalliesOfTasks : Type 0
TalliesOfTasks = (knobs : KnobsView) (start : ℕ) (floors : List ℤ) (tasks : List Task) (events : List Claimed)
    (cpus : ℕ) (pages : ℕ → PageView)
    → IsRecord start floors tasks events cpus
    → ((cpu : ℕ) → cpu < cpus → SufficesAmong knobs start floors tasks events cpus pages cpu)
    → SayNothing pages cpus tasks events
    → All (λ tally. Contains (tasks_of_run tasks events) tally.pid) (tallies_below pages cpus)

-- a page has at most one tally of a pid
abbrev pub TalliesOnce : Type 0
TalliesOnce = (knobs : KnobsView) (start : ℕ) (floors : List ℤ) (tasks : List Task) (events : List Claimed)
    (cpu made : ℕ) (page : PageView)
    → IsStart floors tasks → IsPageOf (cut start floors tasks events cpu) knobs made page
    → AllPairs (λ tally other. tally.pid ≢ other.pid) page.tallies

-- no tally of a run is more
abbrev pub TalliesBounded : Type 0
TalliesBounded = (knobs : KnobsView) (start : ℕ) (floors : List ℤ) (tasks : List Task) (events : List Claimed)
    (last pid : ℕ)
    → IsStart floors tasks → AllByRecursion (λ event. event.entry.time ≤ last) events
    → (run : IsRun knobs start (start_machine start floors tasks) events)
    → IsOfAtMost (length events) last knobs.drift (tally_of (start_machine start floors tasks) events run.states pid)
