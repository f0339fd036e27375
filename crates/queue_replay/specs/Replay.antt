-- A replay, as contracts see it (this project's profile).
use Rattle.std.specs.Prelude.{ℕ}
use Rattle.replay_model.specs.Cut.{StreamView}
use Rattle.replay_model.specs.Noted.{PageView}
use Rattle.cfs_model.specs.Knobs.{KnobsView}

pub record ReplayView : Type 0 where
  pub stream : StreamView
  pub knobs : KnobsView
  -- the number of steps made, one that failed counted
  pub made : ℕ
  -- what its page would show
  pub page : PageView
  -- where all steps were made and none failed, what they need of each setting, and the processor that idles at the
  -- record's last time (HasNeeds); else nothing is said of it
  pub needs : KnobsView
