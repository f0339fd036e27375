-- A replay by steps that are handed in, window after window, as contracts see it (this project's profile).
use Rattle.std.specs.Prelude.{◌≡◌, ℕ, ◌+◌, ◌<◌, ◌≤◌, None, List, length, take}
use Rattle.cfs_model.specs.Least.{larger}
use Rattle.cfs_model.specs.Knobs.{KnobsView}
use Rattle.replay_model.specs.Needs.{AllPassNeeding}
use Rattle.replay_model.specs.Page.{ReplayStateView, IsReplay}
use Rattle.replay_model.specs.declared.step.Step.{Step}
use Rattle.queue_replay.specs.ReplayState.{replay_state_view}
use Rattle.queue_replay.specs.declared.replay_state.ReplayState.{ReplayState}
use Rattle.queue_replay.specs.declared.windowed.WindowedReplay.{WindowedReplay}

pub record WindowedView : Type 0 where
  pub cpu : ℕ
  pub knobs : KnobsView
  -- the number of steps made in all windows, one that failed counted
  pub made : ℕ
  -- where it stands; the lists of its page are those of this window
  pub state : ReplayStateView
  -- what the steps made need of each setting; where one failed nothing is said of it
  pub needs : KnobsView

-- a state as such a replay's
abbrev pub windowed_by : ℕ → KnobsView → ReplayState → WindowedView
windowed_by cpu knobs state = record {
  cpu = cpu;
  knobs = knobs;
  made = state.made;
  state = replay_state_view state;
  needs = state.needs;
}

abbrev pub windowed_view : WindowedReplay → WindowedView
windowed_view replay = windowed_by replay.cpu replay.knobs replay.state

-- where no step failed, all of these were made, and what is needed rises to what they need
pub record RaisesNeeds (before : WindowedView) (steps : List Step) (after : WindowedView) : Type 0 where
  pub here : KnobsView
  pub passes : AllPassNeeding before.knobs before.cpu before.state steps after.state here
  pub needs : after.needs ≡ larger before.needs here
  pub all : after.made ≡ before.made + length steps

-- the replay went on through these steps; after one that fails the others change nothing
pub record GoesThrough (before : WindowedView) (steps : List Step) (after : WindowedView) : Type 0 where
  pub cpu : after.cpu ≡ before.cpu
  pub knobs : after.knobs ≡ before.knobs
  pub replay : IsReplay before.knobs before.cpu before.state steps after.state
  pub at_most : after.made ≤ before.made + length steps
  pub raises : after.state.page.fault ≡ None → RaisesNeeds before steps after

-- it met want of memory before one of them, and stands there; none of those before it failed
pub record StopsWithin (before : WindowedView) (steps : List Step) (after : WindowedView) : Type 0 where
  pub count : ℕ
  pub fewer : count < length steps
  pub through : GoesThrough before (take count steps) after
  pub faultless : after.state.page.fault ≡ None
