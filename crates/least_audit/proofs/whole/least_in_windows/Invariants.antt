use Rattle.std.proofs.Common.{◌-◌, take}
use Rattle.cfs_model.specs.Least.{greatest_settings}
use Rattle.sched_record.specs.Record.{record_view}
use Rattle.ticket_book.specs.SaidEvents.{events_of}
use Rattle.window_audit.specs.Whole.{beginning_of}
use Rattle.least_audit.specs.Audit.{IsLeastAuditOf}
use Rattle.least_audit.proofs.whole.least_in_windows.Given as goal

abbrev pub invariant-loop-from : goal.invariant-loop-from
invariant-loop-from g l =
    let r = record_view l.joined in
    IsLeastAuditOf (beginning_of greatest_settings r) (take l.from (events_of r)) l.audit

abbrev pub decreases-loop-from : goal.decreases-loop-from
decreases-loop-from g l = l.count - l.from
