-- The audit of least settings in windows: what holds of it between two, and what it tells of one (this project's
-- profile).
use Rattle.std.specs.Prelude.{◌≡◌, ◌+◌, ◌^◌, ◌<◌, Option, Some, None, List, ◌++◌, length}
use Rattle.cfs_model.specs.Claimed.{Claimed}
use Rattle.cfs_model.specs.Least.{greatest_settings}
use Rattle.cfs_model.specs.Start.{start_machine}
use Rattle.replay_model.specs.Cause.{IsFirstFault}
use Rattle.replay_model.specs.Record.{IsRecord}
use Rattle.replay_model.specs.declared.first_fault.FirstFault.{FirstFault}
use Rattle.sched_record.specs.Record.{RecordView}
use Rattle.ticket_book.specs.SaidEvents.{events_of}
use Rattle.ticket_book.specs.Told.{cause_view}
use Rattle.window_audit.specs.Audit.{Beginning, IsAuditOf}
use Rattle.window_audit.specs.Whole.{beginning_of}
use Rattle.least_audit.specs.Pursuers.{ArePursuers}
use Rattle.least_audit.specs.SoFar.{AreFiguresOf}
use Rattle.least_audit.specs.declared.audit.LeastAudit.{LeastAudit}

-- the audit has seen these events so far, which are a run at the greatest settings up to here, and has their least ones
pub record IsLeastAuditOf (of : Beginning) (so_far : List Claimed) (audit : LeastAudit) : Type 0 where
  pub greatest : of.knobs ≡ greatest_settings
  pub audited : IsAuditOf of so_far audit.audit
  pub pursued : ArePursuers of so_far audit.pursuers.items
  pub figures : AreFiguresOf of so_far audit.pursuers.items audit.figures

-- a window comes next, and with it the events are still those of a record
pub record LeastComesNext (of : Beginning) (so_far window : List Claimed) (audit : LeastAudit) : Type 0 where
  pub audit_is : IsLeastAuditOf of so_far audit
  pub is_record : IsRecord of.start of.floors of.tasks (so_far ++ window) of.cpus
  pub some : 0 < of.cpus
  pub few : of.cpus < 2 ^ 32
  pub fit : length so_far + length window < 2 ^ 64

-- what is told of the window: nothing, and the audit has seen its events too; or the first fault of the events with it
abbrev pub IsLeastToldOf : Beginning → List Claimed → List Claimed → Option FirstFault → LeastAudit → Type 0
IsLeastToldOf of so_far window None audit = IsLeastAuditOf of (so_far ++ window) audit
IsLeastToldOf of so_far window (Some fault) audit =
    IsFirstFault of.knobs of.start (start_machine of.start of.floors of.tasks) (so_far ++ window) fault.line
    (cause_view fault)

-- it has seen all events of a record
pub record HasSeenRecord (r : RecordView) (audit : LeastAudit) : Type 0 where
  pub is_record : IsRecord r.start r.floors r.tasks (events_of r) r.cpus
  pub all : IsLeastAuditOf (beginning_of greatest_settings r) (events_of r) audit
