-- The least settings of the windows of a record that were seen so far (this project's profile).
use Rattle.std.specs.Prelude.{◌≡◌, ℕ, ◌<◌, Bool, None, ℤ, List, ◌++◌}
use Rattle.cfs_model.specs.Claimed.{Claimed}
use Rattle.cfs_model.specs.Knobs.{KnobsView}
use Rattle.cfs_model.specs.Least.{AreLeast, larger}
use Rattle.cfs_model.specs.Start.{start_machine}
use Rattle.cfs_model.specs.declared.task.Task.{Task}
use Rattle.replay_model.specs.Cut.{last_time_of, steps_at}
use Rattle.replay_model.specs.Needs.{AllPassNeeding, idle_need, largest, only_slack}
use Rattle.replay_model.specs.Page.{IsReplay, ReplayStateView}
use Rattle.replay_model.specs.Record.{IsRecord}
use Rattle.window_laws.specs.Kept.{kept_of}
use Rattle.window_laws.specs.SoFar.{IsSoFar}
use Rattle.need_laws.specs.Reaching.{NeedsSoFar}

-- what a processor needs of some events: what its steps needed, and of the slack also how long it has idled at the last
abbrev pub needs_at_end : ℕ → List Claimed → ReplayStateView → KnobsView → KnobsView
needs_at_end start events kept needs = larger needs (only_slack (idle_need kept.since (last_time_of start events)))

-- where some events are a run so far, and it is known of each processor what its steps needed, the largest needs are
-- their least settings
abbrev pub NeedsTellLeast : Type 0
NeedsTellLeast = (knobs : KnobsView) (start : ℕ) (floors : List ℤ) (tasks : List Task) (events : List Claimed)
    (cpus : ℕ) (behind kept : ℕ → ReplayStateView) (alive : ℕ → Bool) (needs : ℕ → KnobsView)
    → IsRecord start floors tasks events cpus → IsSoFar knobs start floors tasks events cpus behind alive
    → ((cpu : ℕ) → cpu < cpus → NeedsSoFar knobs start floors tasks events cpu (kept cpu) (needs cpu))
    → AreLeast start (start_machine start floors tasks) events
    (largest (λ cpu. needs_at_end start events (kept cpu) (needs cpu)) cpus)

-- a window's steps that pass from what was kept add to what is known
abbrev pub NeedsGoOn : Type 0
NeedsGoOn = (knobs : KnobsView) (start : ℕ) (floors : List ℤ) (tasks : List Task) (before window : List Claimed)
    (cpu : ℕ) (kept ends : ReplayStateView) (needs here : KnobsView)
    → NeedsSoFar knobs start floors tasks before cpu kept needs
    → AllPassNeeding knobs cpu kept (steps_at cpu window) ends here
    → NeedsSoFar knobs start floors tasks (before ++ window) cpu (kept_of ends) (larger needs here)

-- where the events with a window are a run so far, no replay of the window's steps from what was kept has a fault
abbrev pub NoneFails : Type 0
NoneFails = (knobs : KnobsView) (start : ℕ) (floors : List ℤ) (tasks : List Task) (before window : List Claimed)
    (cpus cpu : ℕ) (behind : ℕ → ReplayStateView) (alive : ℕ → Bool) (kept ends : ReplayStateView) (needs : KnobsView)
    → IsRecord start floors tasks (before ++ window) cpus
    → IsSoFar knobs start floors tasks (before ++ window) cpus behind alive → cpu < cpus
    → NeedsSoFar knobs start floors tasks before cpu kept needs
    → IsReplay knobs cpu kept (steps_at cpu window) ends
    → ends.page.fault ≡ None
