-- One processor of an audit in windows, and what it makes of a window (this project's profile).
use Rattle.std.specs.Prelude.{◌≡◌, ℕ, List}
use Rattle.replay_model.specs.Cut.{StreamView}
use Rattle.replay_model.specs.Page.{end_page}
use Rattle.replay_model.specs.declared.step.Step.{Step}
use Rattle.queue_replay.specs.Windowed.{GoesThrough, WindowedView, windowed_view}
use Rattle.window_audit.specs.declared.member.Member.{Member}

-- its replay
abbrev pub replay_of : Member → WindowedView
replay_of member = windowed_view member.replay

-- a replay went on through a window's steps and stood so, and then the end test was made at this time and line
pub record IsThroughWindow (before : WindowedView) (steps : List Step) (last_time last_line : ℕ) (after : WindowedView)
    : Type 0 where
  pub ends : WindowedView
  pub through : GoesThrough before steps ends
  pub page : (stream : StreamView) → stream.last_time ≡ last_time → stream.last_line ≡ last_line
      → after.state.page ≡ end_page ends.knobs.slack stream ends.state.since ends.state.page.fault ends.state.page
  pub part : after.state.part ≡ ends.state.part
  pub since : after.state.since ≡ ends.state.since
  pub cpu : after.cpu ≡ ends.cpu
  pub knobs : after.knobs ≡ ends.knobs
  pub made : after.made ≡ ends.made
  pub needs : after.needs ≡ ends.needs
