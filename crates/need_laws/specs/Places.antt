-- Where so much of a setting is needed first, by the windows of a record that were seen so far (this project's
-- profile).
use Rattle.std.specs.Prelude.{◌≡◌, ◌≢◌, ℕ, ◌+◌, ◌<◌, ◌≤◌, ◌⊎◌, Bool, Option, Some, ℤ, List, ◌∷◌, ◌++◌}
use Rattle.std.specs.List.{AllByRecursion}
use Rattle.cfs_model.specs.Claimed.{Claimed}
use Rattle.cfs_model.specs.Knobs.{KnobsView, value_at}
use Rattle.cfs_model.specs.Least.{AtMost}
use Rattle.cfs_model.specs.Run.{IsRun}
use Rattle.cfs_model.specs.Start.{start_machine}
use Rattle.cfs_model.specs.declared.setting.Setting.{Setting}
use Rattle.cfs_model.specs.declared.setting.Setting.TheVariants.{Slack}
use Rattle.cfs_model.specs.declared.task.Task.{Task}
use Rattle.replay_model.specs.Cause.{IsFirstFault}
use Rattle.replay_model.specs.Cut.{last_time_of, steps_at}
use Rattle.replay_model.specs.Needs.{AllPassNeeding}
use Rattle.replay_model.specs.Page.{ReplayStateView}
use Rattle.replay_model.specs.Part.{Part}
use Rattle.replay_model.specs.Record.{IsRecord}
use Rattle.replay_model.specs.declared.step.Step.{Step}
use Rattle.window_laws.specs.SoFar.{IsSoFar}
use Rattle.need_laws.specs.Reaching.{IdlesAtEnd, IdlesAtStep, IdlesFrom, NeedsSoFar}
use Rattle.need_laws.specs.Rising.{RoseBy}
use Rattle.need_laws.specs.Short.{kind_of, needing}

-- other settings have a nanosecond less of one setting than these, and at least as much of each other
pub record LackOne (which : Setting) (knobs other : KnobsView) : Type 0 where
  pub one : value_at other which + 1 ≡ value_at knobs which
  pub others : (setting : Setting) → (setting ≡ which) ⊎ (value_at knobs setting ≤ value_at other setting)

-- with a nanosecond less of a setting the first fault of some events is on this line, at this processor and of this
-- task, whatever there is of the others
abbrev pub NeedsAt : ℕ → List ℤ → List Task → List Claimed → KnobsView → Setting → ℕ → ℕ → ℕ → Type 0
NeedsAt start floors tasks events knobs which line cpu pid =
    (other : KnobsView) → LackOne which knobs other
    → IsFirstFault other start (start_machine start floors tasks) events line
    (record { cpu = cpu; pid = pid; kind = kind_of which })

-- so it stays with more events, and where more of other settings is needed
abbrev pub PlaceStays : Type 0
PlaceStays = (start : ℕ) (floors : List ℤ) (tasks : List Task) (events more : List Claimed) (knobs wider : KnobsView)
    (which : Setting) (line cpu pid : ℕ)
    → AtMost knobs wider → value_at knobs which ≡ value_at wider which
    → NeedsAt start floors tasks events knobs which line cpu pid
    → NeedsAt start floors tasks (events ++ more) wider which line cpu pid

-- a window was seen behind some events: with it they are a run so far, and one at the least settings; at each processor
-- the replays of what was before it and of its own steps pass, and need no more than these
pub record SawWindow (knobs least : KnobsView) (start : ℕ) (floors : List ℤ) (tasks : List Task)
    (before window : List Claimed) (cpus : ℕ) (kept ends : ℕ → ReplayStateView) (had here : ℕ → KnobsView)
    (behind : ℕ → ReplayStateView) (alive : ℕ → Bool) : Type 0 where
  pub is_record : IsRecord start floors tasks (before ++ window) cpus
  pub so_far : IsSoFar knobs start floors tasks (before ++ window) cpus behind alive
  pub run : IsRun least start (start_machine start floors tasks) (before ++ window)
  pub needs_before : (cpu : ℕ) → cpu < cpus → NeedsSoFar knobs start floors tasks before cpu (kept cpu) (had cpu)
  pub passes : (cpu : ℕ) → cpu < cpus
      → AllPassNeeding knobs cpu (kept cpu) (steps_at cpu window) (ends cpu) (here cpu)
  pub had_most : (cpu : ℕ) → cpu < cpus → AtMost (had cpu) least
  pub here_most : (cpu : ℕ) → cpu < cpus → AtMost (here cpu) least

-- a processor's steps of a window need less of a setting than the least settings have; or they need as much, and the
-- first that does isn't above a line
abbrev pub RisesFrom : KnobsView → KnobsView → ℕ → ReplayStateView → List Step → ReplayStateView → KnobsView → KnobsView
    → Setting → ℕ → Type 0
RisesFrom knobs least cpu from steps ends had here which line =
    (value_at here which < value_at least which)
    ⊎ ((step : Step) × (since : Option ℕ) × (left : Part) × (value_at here which ≡ value_at least which)
    × (line ≤ step.line) × RoseBy knobs cpu from steps ends had here which step since left)

-- where what is needed of a setting but the slack rises in a window, the first step of all that needs so much is its
-- place
abbrev pub WindowHasPlace : Type 0
WindowHasPlace = (knobs least : KnobsView) (start : ℕ) (floors : List ℤ) (tasks : List Task)
    (before window : List Claimed) (cpus : ℕ) (kept ends : ℕ → ReplayStateView) (had here : ℕ → KnobsView)
    (behind : ℕ → ReplayStateView) (alive : ℕ → Bool) (which : Setting) (cpu : ℕ) (step : Step) (since : Option ℕ)
    (left : Part)
    → SawWindow knobs least start floors tasks before window cpus kept ends had here behind alive
    → ((one : ℕ) → one < cpus → value_at (had one) which < value_at least which)
    → ((one : ℕ) → one < cpus → RisesFrom knobs least one (kept one) (steps_at one window) (ends one) (had one)
    (here one) which step.line)
    → which ≢ Slack → cpu < cpus → value_at (here cpu) which ≡ value_at least which
    → RoseBy knobs cpu (kept cpu) (steps_at cpu window) (ends cpu) (had cpu) (here cpu) which step since left
    → NeedsAt start floors tasks (before ++ window) least which step.line cpu (needing which step)

-- of the slack it is the first event by whose time a processor has idled for so long, and the lowest such processor
abbrev pub WindowHasIdling : Type 0
WindowHasIdling = (knobs least : KnobsView) (start : ℕ) (floors : List ℤ) (tasks : List Task)
    (before front rest : List Claimed) (event : Claimed) (cpus : ℕ) (kept ends : ℕ → ReplayStateView)
    (had here : ℕ → KnobsView) (behind : ℕ → ReplayStateView) (alive : ℕ → Bool) (cpu bound first : ℕ)
    → SawWindow knobs least start floors tasks before (front ++ event ∷ rest) cpus kept ends had here behind alive
    → least.slack ≡ bound + 1
    → ((one : ℕ) → one < cpus → (had one).slack ≤ bound)
    → ((one since : ℕ) → one < cpus → (kept one).since ≡ Some since → last_time_of start before ≤ since + bound)
    → ((one : ℕ) → one < cpus → IdlesFrom knobs one (kept one) (steps_at one (front ++ event ∷ rest)) (ends one)
    (here one) bound (last_time_of start (before ++ (front ++ event ∷ rest))) first)
    → AllByRecursion (λ x. x.entry.time ≤ first + bound) front
    → first + bound < event.entry.time
    → cpu < cpus
    → IdlesAtEnd knobs cpu (kept cpu) (steps_at cpu (front ++ event ∷ rest)) (ends cpu) (here cpu) bound first
    ⊎ IdlesAtStep knobs cpu (kept cpu) (steps_at cpu (front ++ event ∷ rest)) (ends cpu) (here cpu) bound first
    → ((lower : ℕ) → lower < cpu → IdlesFrom knobs lower (kept lower) (steps_at lower (front ++ event ∷ rest))
    (ends lower) (here lower) bound (last_time_of start (before ++ (front ++ event ∷ rest))) (first + 1))
    → NeedsAt start floors tasks (before ++ (front ++ event ∷ rest)) least Slack event.entry.line cpu 0
