-- What holds before the first window (this project's profile).
use Rattle.std.specs.Prelude.{ℕ, ◌<◌, ℤ, List, []}
use Rattle.cfs_model.specs.Knobs.{KnobsView}
use Rattle.replay_model.specs.Cut.{cut}
use Rattle.replay_model.specs.Page.{ReplayStateView, IsStartOf}
use Rattle.replay_model.specs.Roll.{named}
use Rattle.window_laws.specs.SoFar.{IsSoFar}
use Rattle.cfs_model.specs.declared.task.Task.{Task}

-- where each processor's replay stands before its first step, and the tasks named at the start are alive, that is so of
-- no events
abbrev pub NoEventsSoFar : Type 0
NoEventsSoFar = (knobs : KnobsView) (start : ℕ) (floors : List ℤ) (tasks : List Task) (cpus : ℕ)
    (kept : ℕ → ReplayStateView)
    → ((cpu : ℕ) → cpu < cpus → IsStartOf (cut start floors tasks [] cpu) (kept cpu))
    → IsSoFar knobs start floors tasks [] cpus kept (named tasks)
