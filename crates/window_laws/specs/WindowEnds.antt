-- What is kept behind the last window says of the whole record (this project's profile).
use Rattle.std.specs.Prelude.{ℕ, Bool, ℤ, List}
use Rattle.cfs_model.specs.Knobs.{KnobsView}
use Rattle.cfs_model.specs.Start.{start_machine}
use Rattle.cfs_model.specs.Claimed.{Claimed}
use Rattle.cfs_model.specs.Run.{IsRun}
use Rattle.replay_model.specs.Page.{ReplayStateView}
use Rattle.replay_model.specs.Record.{IsRecord}
use Rattle.replay_model.specs.Summary.{IsSummary}
use Rattle.tally_laws.specs.Totals.{summary_by, tallies_below}
use Rattle.window_laws.specs.SoFar.{IsSoFar}
use Rattle.cfs_model.specs.declared.task.Task.{Task}

-- the events so far are a run
abbrev pub SoFarIsRun : Type 0
SoFarIsRun = (knobs : KnobsView) (start : ℕ) (floors : List ℤ) (tasks : List Task) (events : List Claimed)
    (cpus : ℕ) (kept : ℕ → ReplayStateView) (alive : ℕ → Bool)
    → IsRecord start floors tasks events cpus
    → IsSoFar knobs start floors tasks events cpus kept alive
    → IsRun knobs start (start_machine start floors tasks) events

-- and the summary by the tallies kept is that of the run
abbrev pub SoFarTellsSummary : Type 0
SoFarTellsSummary = (knobs : KnobsView) (start : ℕ) (floors : List ℤ) (tasks : List Task) (events : List Claimed)
    (cpus : ℕ) (kept : ℕ → ReplayStateView) (alive : ℕ → Bool)
    → IsRecord start floors tasks events cpus
    → IsSoFar knobs start floors tasks events cpus kept alive
    → IsSummary knobs start (start_machine start floors tasks) tasks events
    (summary_by (tallies_below (λ cpu. (kept cpu).page) cpus) tasks events)
