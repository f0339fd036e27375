-- The audit of a record that comes in windows: what holds of it between two, and what it tells of one (this project's
-- profile).
use Rattle.std.specs.Prelude.{◌≡◌, ℕ, ◌+◌, ◌^◌, ◌<◌, ◌≤◌, ℤ, Option, Some, None, List, ◌++◌, length}
use Rattle.std.specs.List.{AllByRecursion}
use Rattle.cfs_model.specs.Limits.{greatest_setting}
use Rattle.replay_model.specs.Summary.{IsSummary, SummaryView}
use Rattle.cfs_model.specs.Claimed.{Claimed}
use Rattle.cfs_model.specs.Knobs.{KnobsView}
use Rattle.cfs_model.specs.Start.{start_machine}
use Rattle.cfs_model.specs.declared.task.Task.{Task}
use Rattle.replay_model.specs.Cause.{IsFirstFault}
use Rattle.replay_model.specs.Record.{IsRecord}
use Rattle.replay_model.specs.Roll.{named, roll_of}
use Rattle.replay_model.specs.declared.first_fault.FirstFault.{FirstFault}
use Rattle.ticket_book.specs.Told.{cause_view}
use Rattle.ticket_book.specs.WindowBook.{IsBookOf}
use Rattle.window_laws.specs.SoFar.{IsSoFar}
use Rattle.window_audit.specs.States.{AreOwn, state_at}
use Rattle.window_audit.specs.declared.audit.WindowAudit.{WindowAudit}

-- what a record is before its events: settings, start, floors and tasks, and how many processors there are
pub record Beginning : Type 0 where
  pub knobs : KnobsView
  pub start : ℕ
  pub floors : List ℤ
  pub tasks : List Task
  pub cpus : ℕ

-- the audit has seen these events so far, which are a run up to here
pub record IsAuditOf (of : Beginning) (so_far : List Claimed) (audit : WindowAudit) : Type 0 where
  pub run : IsSoFar of.knobs of.start of.floors of.tasks so_far of.cpus (state_at audit.members.items)
      (roll_of (named of.tasks) so_far)
  pub count : length audit.members.items ≡ of.cpus
  pub own : AreOwn of.knobs (length so_far) audit.members.items
  pub book : IsBookOf of.tasks so_far audit.book

-- a window comes next, and with it the events are still those of a record
pub record ComesNext (of : Beginning) (so_far window : List Claimed) (audit : WindowAudit) : Type 0 where
  pub audit_is : IsAuditOf of so_far audit
  pub is_record : IsRecord of.start of.floors of.tasks (so_far ++ window) of.cpus
  pub some : 0 < of.cpus
  pub few : of.cpus < 2 ^ 32
  pub fit : length so_far + length window < 2 ^ 64

-- what is told of the window: nothing, and the audit has seen its events too; or the first fault of the events with it
abbrev pub IsToldOf : Beginning → List Claimed → List Claimed → Option FirstFault → WindowAudit → Type 0
IsToldOf of so_far window None audit = IsAuditOf of (so_far ++ window) audit
IsToldOf of so_far window (Some fault) audit =
    IsFirstFault of.knobs of.start (start_machine of.start of.floors of.tasks) (so_far ++ window) fault.line
    (cause_view fault)

-- these are all events of a record; and no sum over them is too great: none is later than a time that fits, there are
-- few enough, and the drift is one of the settings in range
pub record IsWhole (of : Beginning) (events : List Claimed) (audit : WindowAudit) : Type 0 where
  pub audit_is : IsAuditOf of events audit
  pub is_record : IsRecord of.start of.floors of.tasks events of.cpus
  pub last : ℕ
  pub times : AllByRecursion (λ event. event.entry.time ≤ last) events
  pub last_fits : last < 2 ^ 64
  pub few_events : length events < 2 ^ 32
  pub drift : of.knobs.drift ≤ greatest_setting

-- the events are a run, and this is its summary
abbrev pub IsSummaryOf : Beginning → List Claimed → SummaryView → Type 0
IsSummaryOf of events summary =
    IsSummary of.knobs of.start (start_machine of.start of.floors of.tasks) of.tasks events summary
