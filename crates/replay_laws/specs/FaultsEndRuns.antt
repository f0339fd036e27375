-- What a fault of a replay says of the machine (this project's profile).
use Rattle.std.specs.Prelude.{◌≡◌, ℕ, true, ℤ, List, [], ◌∷◌, ◌++◌}
use Rattle.cfs_model.specs.Knobs.{KnobsView}
use Rattle.cfs_model.specs.Start.{start_machine}
use Rattle.cfs_model.specs.Claimed.{Claimed}
use Rattle.cfs_model.specs.Run.{IsRun}
use Rattle.cfs_model.specs.Order.{IsStart}
use Rattle.replay_model.specs.Cut.{touches}
use Rattle.replay_model.specs.StepAt.{step_at}
use Rattle.replay_model.specs.Record.{TimesRise}
use Rattle.replay_model.specs.Page.{ReplayStateView, FailsStep}
use Rattle.replay_laws.specs.CutReplay.{IsCutReplay}
use Rattle.cfs_model.specs.declared.task.Task.{Task}

-- where a step of a processor's replay fails, the events up to its own are no run
abbrev pub FaultEndsRun : Type 0
FaultEndsRun = (knobs : KnobsView) (start : ℕ) (floors : List ℤ) (tasks : List Task) (before : List Claimed)
    (event : Claimed) (cpu : ℕ) (last failed : ReplayStateView)
    → IsStart floors tasks → TimesRise start before → touches cpu event ≡ true
    → IsCutReplay knobs start floors tasks before cpu last → FailsStep knobs cpu last (step_at cpu event) failed
    → ¬ IsRun knobs start (start_machine start floors tasks) (before ++ event ∷ [])
