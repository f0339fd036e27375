-- Events that stay within what settings allow, though more of one is needed later (this project's profile).
use Rattle.std.specs.Prelude.{ℕ, ◌<◌, Bool, ℤ, List, ◌∷◌, ◌++◌}
use Rattle.cfs_model.specs.Claimed.{Claimed}
use Rattle.cfs_model.specs.Knobs.{KnobsView}
use Rattle.cfs_model.specs.Least.{AtMost}
use Rattle.cfs_model.specs.Run.{IsRun}
use Rattle.cfs_model.specs.Start.{start_machine}
use Rattle.cfs_model.specs.declared.task.Task.{Task}
use Rattle.replay_model.specs.Cut.{cut, last_time_of, steps_at}
use Rattle.replay_model.specs.Needs.{AllPassNeeding}
use Rattle.replay_model.specs.Page.{IsStartOf, ReplayStateView}
use Rattle.replay_model.specs.QueueTests.{IsIdleTooLong}
use Rattle.replay_model.specs.Record.{IsRecord}
use Rattle.window_laws.specs.SoFar.{IsSoFar}

-- a processor's steps among some events pass, and need no more than these settings; nor does it idle for longer than
-- their slack at the last of the events
pub record StaysWithin (knobs other : KnobsView) (start : ℕ) (floors : List ℤ) (tasks : List Task)
    (events : List Claimed) (cpu : ℕ) : Type 0 where
  pub first : ReplayStateView
  pub is_start : IsStartOf (cut start floors tasks events cpu) first
  pub mid : ReplayStateView
  pub needs : KnobsView
  pub passes : AllPassNeeding knobs cpu first (steps_at cpu events) mid needs
  pub within : AtMost needs other
  pub in_time : ¬ IsIdleTooLong other.slack mid.since (last_time_of start events) 0

-- where some events are a run so far, and at each processor the front of them stays within other settings, that front
-- is a run at those
abbrev pub FrontWithinIsRun : Type 0
FrontWithinIsRun = (knobs other : KnobsView) (start : ℕ) (floors : List ℤ) (tasks : List Task)
    (before rest : List Claimed) (event : Claimed) (cpus : ℕ) (kept : ℕ → ReplayStateView) (alive : ℕ → Bool)
    → IsRecord start floors tasks (before ++ event ∷ rest) cpus
    → IsSoFar knobs start floors tasks (before ++ event ∷ rest) cpus kept alive
    → ((cpu : ℕ) → cpu < cpus → StaysWithin knobs other start floors tasks before cpu)
    → IsRun other start (start_machine start floors tasks) before
