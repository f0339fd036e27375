-- What is asked of a recording, and how its record then begins (this project's profile).
use Rattle.std.specs.Prelude.{Bool, if◌then◌else◌}
use Rattle.cfs_model.specs.Knobs.{KnobsView}
use Rattle.cfs_model.specs.Least.{greatest_settings}
use Rattle.sched_record.specs.Record.{RecordView}
use Rattle.window_audit.specs.Audit.{Beginning}
use Rattle.window_audit.specs.Whole.{beginning_of}

-- whether it is a run at these settings, or the least ones at which it is one
pub record AimView : Type 0 where
  pub knobs : KnobsView
  pub least : Bool

-- the settings at which it is audited: for the least ones the greatest
abbrev pub audited_at : AimView → KnobsView
audited_at aim = if aim.least then greatest_settings else aim.knobs

-- what a record is before its events, and whether its least settings are asked for
pub record Begun : Type 0 where
  pub of : Beginning
  pub least : Bool

abbrev pub begun_of : AimView → RecordView → Begun
begun_of aim r = record { of = beginning_of (audited_at aim) r; least = aim.least }
