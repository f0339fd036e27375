-- A replay of a window's steps, and where its needs rose (this project's profile).
use Rattle.std.specs.Prelude.{◌≡◌, ◌↔◌, ◌≤◌, if◌then◌else◌, nat_lt, IsTrue, MatchOption, ℕ, ℤ, Option, Some, None, List}
use Rattle.std.specs.Prelude.{[], ◌∷◌}
use Rattle.std.specs.BTreeSet.{BTreeSet, IsLowerBound, contains}
use Rattle.cfs_model.specs.Knobs.{KnobsView, value_at}
use Rattle.cfs_model.specs.declared.setting.Setting.{Setting}
use Rattle.queue_replay.specs.Windowed.{GoesThrough, RaisesNeeds, WindowedView}
use Rattle.replay_model.specs.Part.{Part}
use Rattle.replay_model.specs.declared.step.Step.{Step}
use Rattle.runqueue.specs.Entities.{by_runtime, waiting_runtime, waiting_task}
use Rattle.runqueue.specs.declared.waiting_task.WaitingTask.{WaitingTask}
use Rattle.need_laws.specs.Rising.{RoseBy}
use Rattle.least_audit.specs.Rises.{rise_at}
use Rattle.least_audit.specs.declared.rise.Rise.{Rise}
use Rattle.least_audit.specs.declared.rise.Rises.{Rises}

-- the first of those who wait in a part, by virtual runtime and pid, if anybody does
pub record IsFirstWaiting (part : Part) (first : Option ℕ) : Type 0 where
  pub waiting : BTreeSet WaitingTask
  pub are : (v : ℤ) (pid : ℕ) → IsTrue (contains by_runtime waiting (waiting_task v pid))
      ↔ (waiting_runtime (part.tasks pid) ≡ Some v)
  pub first_is : MatchOption first ((k : WaitingTask) → ¬ IsTrue (contains by_runtime waiting k))
      (λ pid. (k : WaitingTask) × (k.pid ≡ pid) × IsTrue (contains by_runtime waiting k)
      × IsLowerBound by_runtime waiting k)

-- a replay went on by a step, and by which its needs rose is noted
pub record FollowsOn (before : WindowedView) (rises : Rises) (step : Step) (after : WindowedView) (new : Rises)
    : Type 0 where
  pub through : GoesThrough before (step ∷ []) after
  pub rise : Rise
  pub of_step : rise.step ≡ step
  pub since : rise.since ≡ before.state.since
  pub over : IsFirstWaiting after.state.part rise.over
  pub noted : (which : Setting) → rise_at new which
      ≡ (if nat_lt (value_at before.needs which) (value_at after.needs which) then Some rise else rise_at rises which)

-- by steps that pass what is needed of a setting rose above what was needed before them, and last as this tells; or it
-- didn't rise
abbrev pub IsNoted : WindowedView → List Step → WindowedView → KnobsView → Setting → Option Rise → Type 0
IsNoted before steps after here which None = value_at here which ≤ value_at before.needs which
IsNoted before steps after here which (Some rise) =
    (left : Part) × IsFirstWaiting left rise.over
    × RoseBy before.knobs before.cpu before.state steps after.state before.needs here which rise.step
    rise.since left

-- a replay went on through these steps, and where its needs rose is noted, unless one failed
pub record Pursues (before : WindowedView) (steps : List Step) (after : WindowedView) (rises : Rises) : Type 0 where
  pub through : GoesThrough before steps after
  pub noted : after.state.page.fault ≡ None
      → (r : RaisesNeeds before steps after) × ((which : Setting) → IsNoted before steps after r.here which
      (rise_at rises which))
