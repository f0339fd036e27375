-- What is known of a record's events while they come (this project's profile): up to here they are a run, or this is
-- their first fault.
use Rattle.std.specs.Prelude.{◌≡◌, ℕ, true, false, ◌+◌, ◌^◌, ◌<◌, ◌≤◌, Option, Some, None, List, ◌++◌, length}
use Rattle.std.specs.List.{AllByRecursion}
use Rattle.cfs_model.specs.Claimed.{Claimed}
use Rattle.cfs_model.specs.Limits.{greatest_setting}
use Rattle.cfs_model.specs.Start.{start_machine}
use Rattle.replay_model.specs.Cause.{IsFirstFault}
use Rattle.replay_model.specs.Record.{IsRecord}
use Rattle.replay_model.specs.declared.first_fault.FirstFault.{FirstFault}
use Rattle.sched_record.specs.Record.{RecordView}
use Rattle.ticket_book.specs.SaidEvents.{events_of}
use Rattle.ticket_book.specs.Told.{cause_view}
use Rattle.least_audit.specs.Audit.{IsLeastAuditOf}
use Rattle.window_audit.specs.Audit.{IsAuditOf}
use Rattle.stream_audit.specs.Aim.{AimView, Begun, audited_at, begun_of}
use Rattle.stream_audit.specs.declared.progress.Progress.{Progress}
use Rattle.stream_audit.specs.declared.progress.Progress.TheVariants.{Running, Pursuing, Told}

-- of these events so far this is known
abbrev pub IsKnownOf : Begun → List Claimed → Progress → Type 0
IsKnownOf begun so_far (Running audit) = (begun.least ≡ false) × IsAuditOf begun.of so_far audit
IsKnownOf begun so_far (Pursuing audit) = (begun.least ≡ true) × IsLeastAuditOf begun.of so_far audit
IsKnownOf begun so_far (Told fault) =
    let of = begun.of in
    IsFirstFault of.knobs of.start (start_machine of.start of.floors of.tasks) so_far fault.line (cause_view fault)

-- of events with a window's nothing was told, or their first fault
abbrev pub IsToldWith : Begun → List Claimed → Option FirstFault → Progress → Type 0
IsToldWith begun events None progress = IsKnownOf begun events progress
IsToldWith begun events (Some fault) progress = IsKnownOf begun events (Told fault)

-- a window comes next, and with it the events are still those of a record
pub record IsNext (begun : Begun) (so_far window : List Claimed) (progress : Progress) : Type 0 where
  pub known : IsKnownOf begun so_far progress
  pub is_record : IsRecord begun.of.start begun.of.floors begun.of.tasks (so_far ++ window) begun.of.cpus
  pub some : 0 < begun.of.cpus
  pub few : begun.of.cpus < 2 ^ 32
  pub fit : length so_far + length window < 2 ^ 64

-- these are all events of a record, and no sum over them is too great
pub record IsEnd (aim : AimView) (r : RecordView) (progress : Progress) : Type 0 where
  pub known : IsKnownOf (begun_of aim r) (events_of r) progress
  pub is_record : IsRecord r.start r.floors r.tasks (events_of r) r.cpus
  pub last : ℕ
  pub times : AllByRecursion (λ event. event.entry.time ≤ last) (events_of r)
  pub last_fits : last < 2 ^ 64
  pub few_events : length (events_of r) < 2 ^ 32
  pub drift : (audited_at aim).drift ≤ greatest_setting
