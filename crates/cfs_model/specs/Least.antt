-- The least settings at which events are a run (this project's profile): how far above the least a task was ever
-- picked, how far below the floor one was ever woken and how far above it one was ever born, how long a processor ever
-- idled beside a waiting task, and how far told charges ever strayed in sum.
use Rattle.std.specs.Prelude.{◌≡◌, ℕ, ◌≤◌, min, max, List, [], ◌∷◌, ◌++◌}
use Rattle.cfs_model.specs.Limits.{greatest_setting}
use Rattle.cfs_model.specs.Knobs.{KnobsView, AreInRange, settings_by, value_at}
use Rattle.cfs_model.specs.declared.setting.Setting.{Setting}
use Rattle.cfs_model.specs.Machine.{Machine}
use Rattle.cfs_model.specs.Claimed.{Claimed}
use Rattle.cfs_model.specs.Run.{IsRun}

-- each setting is at most the other's
abbrev pub AtMost : KnobsView → KnobsView → Type 0
AtMost less more = (which : Setting) → value_at less which ≤ value_at more which

-- of each setting the lesser one
abbrev pub lesser : KnobsView → KnobsView → KnobsView
lesser one other = settings_by (λ which. min (value_at one which) (value_at other which))

-- of each setting the larger one
abbrev pub larger : KnobsView → KnobsView → KnobsView
larger one other = settings_by (λ which. max (value_at one which) (value_at other which))

-- the events are a run at these settings, and each is at most that of any settings at which they are one
pub record AreLeast (start : ℕ) (first : Machine) (events : List Claimed) (knobs : KnobsView) : Type 0 where
  pub run : IsRun knobs start first events
  pub least : (other : KnobsView) → IsRun other start first events → AtMost knobs other

-- each setting as large as it may be
abbrev pub greatest_settings : KnobsView
greatest_settings = settings_by (λ which. greatest_setting)

-- the line of an event up to which the events are a run at no settings in range, though those before it are one at some
pub record IsFirstBadAtAll (start : ℕ) (first : Machine) (events : List Claimed) (line : ℕ) : Type 0 where
  pub before : List Claimed
  pub event : Claimed
  pub rest : List Claimed
  pub whole : events ≡ before ++ event ∷ rest
  pub line_is : event.entry.line ≡ line
  pub runs : (knobs : KnobsView) × AreInRange knobs × IsRun knobs start first before
  pub ends : (knobs : KnobsView) → AreInRange knobs → ¬ IsRun knobs start first (before ++ event ∷ [])
