-- The replay of a processor's cut of some events, and how it ends without a fault (this project's profile).
use Rattle.std.specs.Prelude.{◌≡◌, ℕ, ◌≤◌, None, ℤ, List, length}
use Rattle.cfs_model.specs.Knobs.{KnobsView}
use Rattle.cfs_model.specs.Claimed.{Claimed}
use Rattle.replay_model.specs.QueueTests.{IsIdleTooLong}
use Rattle.replay_model.specs.Cut.{steps_at, cut, last_time_of}
use Rattle.replay_model.specs.Page.{ReplayStateView, IsStartOf, IsReplay, IsPageOf}
use Rattle.replay_model.specs.Noted.{PageView}
use Rattle.cfs_model.specs.declared.task.Task.{Task}

-- a processor's replay of its steps among some events
pub record IsCutReplay (knobs : KnobsView) (start : ℕ) (floors : List ℤ) (tasks : List Task) (events : List Claimed)
    (cpu : ℕ) (last : ReplayStateView) : Type 0 where
  pub first : ReplayStateView
  pub is_start : IsStartOf (cut start floors tasks events cpu) first
  pub replay : IsReplay knobs cpu first (steps_at cpu events) last

-- the page of a processor with all steps made, without a fault
pub record IsDone (knobs : KnobsView) (start : ℕ) (floors : List ℤ) (tasks : List Task) (events : List Claimed)
    (cpu : ℕ) (page : PageView) : Type 0 where
  pub made : ℕ
  pub is_page : IsPageOf (cut start floors tasks events cpu) knobs made page
  pub all_made : length (steps_at cpu events) ≤ made
  pub no_fault : page.fault ≡ None

-- a processor's replay of its steps among some events ends like this, without a fault, and has not idled for too long
-- at the last of the events
pub record PassesCut (knobs : KnobsView) (start : ℕ) (floors : List ℤ) (tasks : List Task) (events : List Claimed)
    (cpu : ℕ) (last : ReplayStateView) : Type 0 where
  pub cut_replay : IsCutReplay knobs start floors tasks events cpu last
  pub no_fault : last.page.fault ≡ None
  pub in_time : ¬ IsIdleTooLong knobs.slack last.since (last_time_of start events) 0
