-- The event of a step by which needs rose, and what it leaves at its processor (this project's profile).
use Rattle.std.specs.Prelude.{◌≡◌, ℕ, ◌<◌, Bool, true, Option, ℤ, List, [], ◌∷◌, ◌++◌}
use Rattle.cfs_model.specs.Claimed.{Claimed}
use Rattle.cfs_model.specs.Knobs.{KnobsView}
use Rattle.cfs_model.specs.Run.{IsRun, last_of}
use Rattle.cfs_model.specs.Start.{start_machine}
use Rattle.cfs_model.specs.declared.setting.Setting.{Setting}
use Rattle.cfs_model.specs.declared.task.Task.{Task}
use Rattle.replay_model.specs.Cut.{steps_at, touches}
use Rattle.replay_model.specs.Page.{ReplayStateView}
use Rattle.replay_model.specs.Part.{Part, part_of}
use Rattle.replay_model.specs.StepAt.{step_at}
use Rattle.replay_model.specs.declared.step.Step.{Step}
use Rattle.need_laws.specs.Places.{SawWindow}
use Rattle.need_laws.specs.Rising.{RoseBy}

-- the event of a step at a processor, and what the machine behind it has there
pub record IsEventOf (start : ℕ) (floors : List ℤ) (tasks : List Task) (events : List Claimed) (cpu : ℕ) (step : Step)
    (left : Part) : Type 0 where
  pub front : List Claimed
  pub event : Claimed
  pub rest : List Claimed
  pub whole : events ≡ front ++ event ∷ rest
  pub touch : touches cpu event ≡ true
  pub is : step ≡ step_at cpu event
  pub part : (knobs : KnobsView) → (run : IsRun knobs start (start_machine start floors tasks) (front ++ event ∷ []))
      → part_of (last_of (start_machine start floors tasks) run.states) cpu ≡ left

-- a step by which needs rose in a window has its event there
abbrev pub RiseHasEvent : Type 0
RiseHasEvent = (knobs least : KnobsView) (start : ℕ) (floors : List ℤ) (tasks : List Task)
    (before window : List Claimed) (cpus : ℕ) (kept ends : ℕ → ReplayStateView) (had here : ℕ → KnobsView)
    (behind : ℕ → ReplayStateView) (alive : ℕ → Bool) (which : Setting) (cpu : ℕ) (step : Step) (since : Option ℕ)
    (left : Part)
    → SawWindow knobs least start floors tasks before window cpus kept ends had here behind alive → cpu < cpus
    → RoseBy knobs cpu (kept cpu) (steps_at cpu window) (ends cpu) (had cpu) (here cpu) which step since left
    → IsEventOf start floors tasks (before ++ window) cpu step left

-- an event stays with more events behind it
abbrev pub EventStays : Type 0
EventStays = (start : ℕ) (floors : List ℤ) (tasks : List Task) (events more : List Claimed) (cpu : ℕ) (step : Step)
    (left : Part)
    → IsEventOf start floors tasks events cpu step left → IsEventOf start floors tasks (events ++ more) cpu step left
