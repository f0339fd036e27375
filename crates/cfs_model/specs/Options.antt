-- The options by which settings are given: their names and defaults (this project's command line).
use Rattle.std.specs.Prelude.{ℕ, List, codes}
use Rattle.cfs_model.specs.declared.setting.Setting.{Setting}
use Rattle.cfs_model.specs.declared.setting.Setting.TheVariants.{Granularity, Credit, Debit, Slack, Drift}

-- the name of a setting's option
abbrev pub name_of_setting : Setting → List ℕ
name_of_setting Granularity = codes "granularity-ns"
name_of_setting Credit = codes "credit-ns"
name_of_setting Debit = codes "debit-ns"
name_of_setting Slack = codes "slack-ns"
name_of_setting Drift = codes "drift-ns"

-- the default of a setting
abbrev pub standard_value : Setting → ℕ
standard_value Granularity = 1000000
standard_value Credit = 3000000
standard_value Debit = 3000000
standard_value Slack = 100000
standard_value Drift = 0
