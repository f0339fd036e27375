-- Where the needs of a replay rose (this project's profile).
use Rattle.std.specs.Prelude.{Option}
use Rattle.cfs_model.specs.declared.setting.Setting.{Setting}
use Rattle.cfs_model.specs.declared.setting.Setting.TheVariants.{Granularity, Credit, Debit, Slack, Drift}
use Rattle.least_audit.specs.declared.rise.Rise.{Rise}
use Rattle.least_audit.specs.declared.rise.Rises.{Rises}

-- that of a setting
abbrev pub rise_at : Rises → Setting → Option Rise
rise_at rises Granularity = rises.granularity
rise_at rises Credit = rises.credit
rise_at rises Debit = rises.debit
rise_at rises Slack = rises.slack
rise_at rises Drift = rises.drift
