-- How far a replay has gone along its stream (this project's profile).
use Rattle.std.specs.Prelude.{◌≡◌, ℕ, ◌+◌, ◌-◌, ◌<◌, ◌≤◌, min, nat_lt, if◌then◌else◌, Option, Some, None, IsSome}
use Rattle.std.specs.Prelude.{length, take}
use Rattle.cfs_model.specs.Knobs.{KnobsView}
use Rattle.replay_model.specs.Cut.{StreamView}
use Rattle.replay_model.specs.Needs.{AllPassNeeding}
use Rattle.replay_model.specs.Noted.{PageView}
use Rattle.replay_model.specs.Page.{ReplayStateView, IsStartOf, IsReplay, IsPageOf}
use Rattle.replay_model.specs.Part.{Part}
use Rattle.replay_model.specs.declared.page.StepFault.{StepFault}
use Rattle.queue_replay.specs.Counting.{page_draft_view}
use Rattle.queue_replay.specs.Needing.{HasNeeds}
use Rattle.queue_replay.specs.ReplayState.{replay_state_view, IsGoing}
use Rattle.queue_replay.specs.declared.replay_state.ReplayState.{ReplayState}
use Rattle.queue_replay.specs.declared.state.State.{State}
use Rattle.queue_replay.specs.declared.state.State.TheVariants as states
use Rattle.queue_replay.specs.declared.tag.Reached.{Reached}
use Rattle.queue_replay.specs.declared.tag.Reached.TheVariants.{Stopped, Done, Faulted}
use Rattle.runqueue.specs.Queue.{runqueue_view}

-- the state is that of the stream's replay by its first steps, none of which failed, and its needs are theirs
pub record IsUnderWay (stream : StreamView) (knobs : KnobsView) (state : ReplayState) : Type 0 where
  pub start : ReplayStateView
  pub is_start : IsStartOf stream start
  pub replay : IsReplay knobs stream.cpu start (take state.made stream.steps) (replay_state_view state)
  pub needing : AllPassNeeding knobs stream.cpu start (take state.made stream.steps) (replay_state_view state)
      state.needs
  pub going : IsGoing state

-- the part of a processor, and since when it has idled beside a waiting task, after the first steps of its stream's
-- replay; a step that fails changes neither
pub record IsPartAfter (stream : StreamView) (knobs : KnobsView) (made : ℕ) (part : Part)
    (since : Option ℕ) : Type 0 where
  pub start : ReplayStateView
  pub is_start : IsStartOf stream start
  pub end : ReplayStateView
  pub replay : IsReplay knobs stream.cpu start (take made stream.steps) end
  pub part_is : part ≡ end.part
  pub since_is : since ≡ end.since

-- the state has the page of the steps made, with what they need, and can go on where none has failed and some are left
pub record IsAt (stream : StreamView) (knobs : KnobsView) (state : ReplayState) : Type 0 where
  pub within : state.made ≤ length stream.steps
  pub is_part : IsPartAfter stream knobs state.made (runqueue_view state.queue) state.since
  pub is_page : IsPageOf stream knobs state.made (page_draft_view state.draft)
  pub has_needs : HasNeeds stream knobs state.made (page_draft_view state.draft) state.needs
  pub under_way : state.draft.fault ≡ None → state.made < length stream.steps → IsUnderWay stream knobs state

-- a replay with this page, after so many steps of so many
abbrev pub state_of : Option StepFault → ℕ → ℕ → State
state_of (Some fault) made steps = states.Faulted
state_of None made steps = if nat_lt made steps then states.Going else states.Done

-- a page of so many steps without a fault
abbrev pub IsFaultless : StreamView → KnobsView → ℕ → Type 0
IsFaultless stream knobs made = (page : PageView) × IsPageOf stream knobs made page × (page.fault ≡ None)

-- a replay that had this page after so many steps went on for at most so many more
pub record GoesOn (stream : StreamView) (knobs : KnobsView) (from : ℕ) (before : PageView) (steps made : ℕ)
    (after : PageView)
    : Type 0 where
  -- a fault ends it: nothing changes any more
  pub faulted : IsSome before.fault → (made ≡ from) × (after ≡ before)
  -- nor does anything where no step was left, or none was to be made
  pub same : made ≡ from → after ≡ before
  pub from_there : from ≤ made
  -- no more steps than those
  pub at_most : made ≤ min (from + steps) (length stream.steps)
  -- all of them where none failed
  pub all : after.fault ≡ None → made ≡ min (from + steps) (length stream.steps)
  -- only the last of them can have failed
  pub first : from < made → IsFaultless stream knobs (made - 1)

-- a replay met want of memory before one of so many steps: it stands before that step
pub record IsCut (stream : StreamView) (knobs : KnobsView) (from steps made : ℕ) (after : PageView) : Type 0 where
  pub faultless : after.fault ≡ None
  pub from_there : from ≤ made
  pub fewer : made < from + steps
  pub left : made < length stream.steps

-- how far a replay with this page went, after so many steps of so many
abbrev pub reached_at : Option StepFault → ℕ → ℕ → ℕ → Reached
reached_at (Some fault) line made steps = Faulted fault.line
reached_at None line made steps = if nat_lt made steps then Stopped line else Done

abbrev pub reached_of : PageView → ℕ → ℕ → Reached
reached_of page made steps = reached_at page.fault page.line made steps
