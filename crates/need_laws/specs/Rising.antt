-- The step by which what a replay needs of a setting rose last (this project's profile).
use Rattle.std.specs.Prelude.{◌≡◌, ℕ, ◌+◌, ◌<◌, ◌≤◌, Option, List, [], ◌∷◌, ◌++◌}
use Rattle.cfs_model.specs.Knobs.{KnobsView, value_at}
use Rattle.cfs_model.specs.Least.{larger}
use Rattle.cfs_model.specs.declared.setting.Setting.{Setting}
use Rattle.replay_model.specs.Needs.{AllPassNeeding}
use Rattle.replay_model.specs.Part.{Part}
use Rattle.replay_model.specs.Page.{ReplayStateView}
use Rattle.replay_model.specs.declared.step.Step.{Step}
use Rattle.need_laws.specs.Reaching.{ReachesAt}

-- by steps that pass what is needed of a setting rose above what had been needed, and last by this step, which found
-- the processor idling since a time, or not, and left this part
pub record RoseBy (knobs : KnobsView) (cpu : ℕ) (from : ReplayStateView) (steps : List Step) (ends : ReplayStateView)
    (had here : KnobsView) (which : Setting) (step : Step) (since : Option ℕ) (left : Part) : Type 0 where
  pub bound : ℕ
  pub above : value_at here which ≡ bound + 1
  pub enough : value_at had which ≤ bound
  pub reaches : ReachesAt knobs cpu from steps ends here which bound step
  pub since_is : since ≡ reaches.mid.since
  pub left_is : left ≡ reaches.next.part

-- one step more, by which it rises, is that step
abbrev pub RisesByNext : Type 0
RisesByNext = (knobs : KnobsView) (cpu : ℕ) (from mid ends : ReplayStateView) (steps : List Step) (step : Step)
    (had here more : KnobsView) (which : Setting)
    → AllPassNeeding knobs cpu from steps mid here → AllPassNeeding knobs cpu mid (step ∷ []) ends more
    → value_at (larger had here) which < value_at (larger (larger had here) more) which
    → RoseBy knobs cpu from (steps ++ step ∷ []) ends had (larger here more) which step mid.since ends.part

-- one step more by which it doesn't rise leaves what rose as it was
abbrev pub StaysByNext : Type 0
StaysByNext = (knobs : KnobsView) (cpu : ℕ) (from mid ends : ReplayStateView) (steps : List Step) (step : Step)
    (had here more : KnobsView) (which : Setting)
    → AllPassNeeding knobs cpu mid (step ∷ []) ends more
    → value_at (larger (larger had here) more) which ≤ value_at (larger had here) which
    → (value_at here which ≤ value_at had which → value_at (larger here more) which ≤ value_at had which)
    × ((earlier : Step) (since : Option ℕ) (left : Part)
    → RoseBy knobs cpu from steps mid had here which earlier since left
    → RoseBy knobs cpu from (steps ++ step ∷ []) ends had (larger here more) which earlier since left)
