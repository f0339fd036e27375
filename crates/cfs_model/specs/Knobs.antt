-- The settings of the profile, each in nanoseconds (this project's profile).
use Rattle.std.specs.Prelude.{ℕ, ◌≤◌, List, [], ◌∷◌}
use Rattle.std.specs.List.{AllByRecursion}
use Rattle.cfs_model.specs.Limits.{greatest_setting}
use Rattle.cfs_model.specs.declared.setting.Setting.{Setting}
use Rattle.cfs_model.specs.declared.setting.Setting.TheVariants.{Granularity, Credit, Debit, Slack, Drift}

pub record KnobsView : Type 0 where
  -- how far above the least virtual runtime a picked task may be
  pub granularity : ℕ
  -- how far below the floor a woken task may be placed
  pub credit : ℕ
  -- how far above the floor a new task may be placed
  pub debit : ℕ
  -- how long a processor may idle beside a waiting task
  pub slack : ℕ
  -- how far a task's told charges may stray in sum from the exact ones, since it came to its processor
  pub drift : ℕ

-- all of them, in the order in which they are told
abbrev pub all_settings : List Setting
all_settings = Granularity ∷ Credit ∷ Debit ∷ Slack ∷ Drift ∷ []

-- the value of a setting
abbrev pub value_at : KnobsView → Setting → ℕ
value_at knobs Granularity = knobs.granularity
value_at knobs Credit = knobs.credit
value_at knobs Debit = knobs.debit
value_at knobs Slack = knobs.slack
value_at knobs Drift = knobs.drift

-- the settings of which each has the value that a function gives it
abbrev pub settings_by : (Setting → ℕ) → KnobsView
settings_by value = record {
  granularity = value Granularity;
  credit = value Credit;
  debit = value Debit;
  slack = value Slack;
  drift = value Drift;
}

-- the same settings but for the value of one
abbrev pub with_value : KnobsView → Setting → ℕ → KnobsView
with_value knobs Granularity value = record knobs { granularity = value }
with_value knobs Credit value = record knobs { credit = value }
with_value knobs Debit value = record knobs { debit = value }
with_value knobs Slack value = record knobs { slack = value }
with_value knobs Drift value = record knobs { drift = value }

-- settings that let nothing pass
abbrev pub nothing : KnobsView
nothing = settings_by (λ which. 0)

-- so much of one setting, and nothing of any other
abbrev pub only : Setting → ℕ → KnobsView
only setting value = with_value nothing setting value

-- no setting is above the greatest value
abbrev pub AreInRange : KnobsView → Type 0
AreInRange knobs = AllByRecursion (λ which. value_at knobs which ≤ greatest_setting) all_settings
