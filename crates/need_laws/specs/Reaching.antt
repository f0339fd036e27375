-- The event of a window that is the first to need more of a setting than there is (this project's profile).
use Rattle.std.specs.Prelude.{◌≡◌, ◌≢◌, ℕ, ◌+◌, ◌<◌, ◌≤◌, ◌⊎◌, Bool, Some, ℤ, List, ◌∷◌, ◌++◌}
use Rattle.std.specs.List.{AllByRecursion}
use Rattle.cfs_model.specs.Claimed.{Claimed}
use Rattle.cfs_model.specs.Knobs.{KnobsView, value_at}
use Rattle.cfs_model.specs.Least.{AtMost, larger}
use Rattle.cfs_model.specs.Run.{IsRun}
use Rattle.cfs_model.specs.Start.{start_machine}
use Rattle.cfs_model.specs.declared.setting.Setting.{Setting}
use Rattle.cfs_model.specs.declared.setting.Setting.TheVariants.{Slack}
use Rattle.cfs_model.specs.declared.task.Task.{Task}
use Rattle.replay_model.specs.Cause.{IsFirstFault}
use Rattle.cfs_model.specs.declared.kind.Kind.TheVariants.{IdleTooLong}
use Rattle.replay_model.specs.Cut.{cut, last_time_of, steps_at}
use Rattle.replay_model.specs.Needs.{AllPassNeeding, PassesNeeding}
use Rattle.replay_model.specs.Page.{IsStartOf, ReplayStateView}
use Rattle.replay_model.specs.Record.{IsRecord}
use Rattle.replay_model.specs.declared.step.Step.{Step}
use Rattle.window_laws.specs.Kept.{kept_of}
use Rattle.window_laws.specs.SoFar.{IsSoFar}
use Rattle.need_laws.specs.Short.{kind_of, needing}

-- a processor's steps among the events so far pass, with these needs, and this is what is kept of where they end
pub record NeedsSoFar (knobs : KnobsView) (start : ℕ) (floors : List ℤ) (tasks : List Task) (events : List Claimed)
    (cpu : ℕ) (kept : ReplayStateView) (needs : KnobsView) : Type 0 where
  pub first : ReplayStateView
  pub is_start : IsStartOf (cut start floors tasks events cpu) first
  pub last : ReplayStateView
  pub passes : AllPassNeeding knobs cpu first (steps_at cpu events) last needs
  pub is_kept : kept ≡ kept_of last

-- steps pass, and this is the first of them that needs more of a setting than a bound
pub record ReachesAt (knobs : KnobsView) (cpu : ℕ) (from : ReplayStateView) (steps : List Step)
    (ends : ReplayStateView) (needs : KnobsView) (which : Setting) (bound : ℕ) (step : Step) : Type 0 where
  pub front : List Step
  pub back : List Step
  pub whole : steps ≡ front ++ step ∷ back
  pub mid : ReplayStateView
  pub next : ReplayStateView
  pub before : KnobsView
  pub here : KnobsView
  pub later : KnobsView
  pub passes_before : AllPassNeeding knobs cpu from front mid before
  pub passes : PassesNeeding knobs cpu mid step next here
  pub passes_later : AllPassNeeding knobs cpu next back ends later
  pub needs_are : needs ≡ larger before (larger here later)
  pub within : value_at before which ≤ bound
  pub above : bound < value_at here which

-- steps pass and need no more of a setting than a bound, or the first that does isn't above this line
abbrev pub ReachesFrom : KnobsView → ℕ → ReplayStateView → List Step → ReplayStateView → KnobsView → Setting → ℕ → ℕ
    → Type 0
ReachesFrom knobs cpu from steps ends needs which bound line =
    (AllPassNeeding knobs cpu from steps ends needs × (value_at needs which ≤ bound))
    ⊎ ((step : Step) × (line ≤ step.line) × ReachesAt knobs cpu from steps ends needs which bound step)

-- what the replays of a window's steps at all processors need, beside what those before it needed, where some settings
-- have as much of each setting but one; and of that one, as much as is needed before a line
pub record AreReached (knobs wider other : KnobsView) (start : ℕ) (floors : List ℤ) (tasks : List Task)
    (before window : List Claimed) (cpus : ℕ) (kept ends : ℕ → ReplayStateView) (had here : ℕ → KnobsView)
    (which : Setting) (line : ℕ) : Type 0 where
  pub so_far : (cpu : ℕ) → cpu < cpus → NeedsSoFar knobs start floors tasks before cpu (kept cpu) (had cpu)
  pub reaches : (cpu : ℕ) → cpu < cpus
      → ReachesFrom knobs cpu (kept cpu) (steps_at cpu window) (ends cpu) (here cpu) which (value_at other which) line
  pub had_wider : (cpu : ℕ) → cpu < cpus → AtMost (had cpu) wider
  pub here_wider : (cpu : ℕ) → cpu < cpus → AtMost (here cpu) wider
  pub had_which : (cpu : ℕ) → cpu < cpus → value_at (had cpu) which ≤ value_at other which
  pub others : (setting : Setting) → (setting ≡ which) ⊎ (value_at wider setting ≤ value_at other setting)

-- where the events of a window and those before it are a run so far, and one at wider settings, and a step of the
-- window is the first at all processors that needs more of a setting than there is, though not of the slack, the first
-- fault is at it, of that setting and of the task that needs so much
abbrev pub ReachedIsFault : Type 0
ReachedIsFault = (knobs wider other : KnobsView) (start : ℕ) (floors : List ℤ) (tasks : List Task)
    (before window : List Claimed) (cpus : ℕ) (kept ends : ℕ → ReplayStateView) (had here : ℕ → KnobsView)
    (behind : ℕ → ReplayStateView) (alive : ℕ → Bool) (which : Setting) (cpu : ℕ) (step : Step)
    → IsRecord start floors tasks (before ++ window) cpus
    → IsSoFar knobs start floors tasks (before ++ window) cpus behind alive
    → IsRun wider start (start_machine start floors tasks) (before ++ window)
    → AreReached knobs wider other start floors tasks before window cpus kept ends had here which step.line
    → which ≢ Slack → cpu < cpus
    → ReachesAt knobs cpu (kept cpu) (steps_at cpu window) (ends cpu) (here cpu) which (value_at other which) step
    → IsFirstFault other start (start_machine start floors tasks) (before ++ window) step.line (record {
      cpu = cpu;
      pid = needing which step;
      kind = kind_of which;
    })

-- a processor's steps of a window pass, none needs more of the slack than a bound, and it has idled for no longer at
-- the window's last time
pub record IdlesWithin (knobs : KnobsView) (cpu : ℕ) (from : ReplayStateView) (steps : List Step)
    (ends : ReplayStateView) (needs : KnobsView) (bound last_time : ℕ) : Type 0 where
  pub passes : AllPassNeeding knobs cpu from steps ends needs
  pub within : needs.slack ≤ bound
  pub in_time : (since : ℕ) → ends.since ≡ Some since → last_time ≤ since + bound

-- none does, but it idles since a time at the end
pub record IdlesAtEnd (knobs : KnobsView) (cpu : ℕ) (from : ReplayStateView) (steps : List Step)
    (ends : ReplayStateView) (needs : KnobsView) (bound since : ℕ) : Type 0 where
  pub passes : AllPassNeeding knobs cpu from steps ends needs
  pub within : needs.slack ≤ bound
  pub idles : ends.since ≡ Some since

-- the first step that does finds it idling since a time
pub record IdlesAtStep (knobs : KnobsView) (cpu : ℕ) (from : ReplayStateView) (steps : List Step)
    (ends : ReplayStateView) (needs : KnobsView) (bound since : ℕ) : Type 0 where
  pub step : Step
  pub reaches : ReachesAt knobs cpu from steps ends needs Slack bound step
  pub idles : reaches.mid.since ≡ Some since

-- a processor idles for no longer than a bound in a window, or it begins to do so no sooner than at a time
abbrev pub IdlesFrom : KnobsView → ℕ → ReplayStateView → List Step → ReplayStateView → KnobsView → ℕ → ℕ → ℕ → Type 0
IdlesFrom knobs cpu from steps ends needs bound last_time least =
    IdlesWithin knobs cpu from steps ends needs bound last_time
    ⊎ ((since : ℕ) × (least ≤ since) × IdlesAtEnd knobs cpu from steps ends needs bound since)
    ⊎ ((since : ℕ) × (least ≤ since) × IdlesAtStep knobs cpu from steps ends needs bound since)

-- what the replays of a window's steps need of the slack, where some settings have as much of each other setting, and
-- as much of the slack as is needed before the window; each processor that idles for longer in it begins to do so no
-- sooner than at a time
pub record AreIdling (knobs wider other : KnobsView) (start : ℕ) (floors : List ℤ) (tasks : List Task)
    (before window : List Claimed) (cpus : ℕ) (kept ends : ℕ → ReplayStateView) (had here : ℕ → KnobsView)
    (least : ℕ) : Type 0 where
  pub so_far : (cpu : ℕ) → cpu < cpus → NeedsSoFar knobs start floors tasks before cpu (kept cpu) (had cpu)
  pub idles : (cpu : ℕ) → cpu < cpus
      → IdlesFrom knobs cpu (kept cpu) (steps_at cpu window) (ends cpu) (here cpu) other.slack
      (last_time_of start (before ++ window)) least
  pub had_wider : (cpu : ℕ) → cpu < cpus → AtMost (had cpu) wider
  pub here_wider : (cpu : ℕ) → cpu < cpus → AtMost (here cpu) wider
  pub had_slack : (cpu : ℕ) → cpu < cpus → (had cpu).slack ≤ other.slack
  pub had_time : (cpu since : ℕ) → cpu < cpus → (kept cpu).since ≡ Some since
      → last_time_of start before ≤ since + other.slack
  pub others : (setting : Setting) → (setting ≡ Slack) ⊎ (value_at wider setting ≤ value_at other setting)

-- where the events of a window and those before it are a run so far, and one with a nanosecond more of the slack, and a
-- processor idles in it since the least time for longer than the slack, and no lower one since that time, the first
-- fault is at the first event by whose time it has
abbrev pub IdlingIsFault : Type 0
IdlingIsFault = (knobs wider other : KnobsView) (start : ℕ) (floors : List ℤ) (tasks : List Task)
    (before front rest : List Claimed) (event : Claimed) (cpus : ℕ) (kept ends : ℕ → ReplayStateView)
    (had here : ℕ → KnobsView) (behind : ℕ → ReplayStateView) (alive : ℕ → Bool) (cpu least : ℕ)
    → IsRecord start floors tasks (before ++ (front ++ event ∷ rest)) cpus
    → IsSoFar knobs start floors tasks (before ++ (front ++ event ∷ rest)) cpus behind alive
    → IsRun wider start (start_machine start floors tasks) (before ++ (front ++ event ∷ rest))
    → wider.slack ≤ other.slack + 1
    → AreIdling knobs wider other start floors tasks before (front ++ event ∷ rest) cpus kept ends had here least
    → AllByRecursion (λ x. x.entry.time ≤ least + other.slack) front
    → least + other.slack < event.entry.time
    → cpu < cpus
    → IdlesAtEnd knobs cpu (kept cpu) (steps_at cpu (front ++ event ∷ rest)) (ends cpu) (here cpu) other.slack least
    ⊎ IdlesAtStep knobs cpu (kept cpu) (steps_at cpu (front ++ event ∷ rest)) (ends cpu) (here cpu) other.slack least
    → ((lower : ℕ) → lower < cpu
    → IdlesFrom knobs lower (kept lower) (steps_at lower (front ++ event ∷ rest)) (ends lower) (here lower) other.slack
    (last_time_of start (before ++ (front ++ event ∷ rest))) (least + 1))
    → IsFirstFault other start (start_machine start floors tasks) (before ++ (front ++ event ∷ rest)) event.entry.line
    (record { cpu = cpu; pid = 0; kind = IdleTooLong })
