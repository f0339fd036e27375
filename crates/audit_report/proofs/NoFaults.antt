-- Where no fault is named the record's events are a run.
use Rattle.std.proofs.Common.{◌≡◌, None}
use Rattle.cfs_model.specs.Knobs.{KnobsView}
use Rattle.cfs_model.specs.Run.{IsRun}
use Rattle.least_places.specs.LeastAnswer.{IsLeastAnswer}
use Rattle.least_places.specs.declared.figures.LeastFigures.{LeastFigures}
use Rattle.least_places.specs.declared.figures.LeastFigures.TheVariants as leasts
use Rattle.sched_record.specs.Record.{RecordView}
use Rattle.audit_report.specs.Report.{least_fault, verdict_fault}
use Rattle.ticket_book.specs.Verdict.{IsVerdict}
use Rattle.ticket_book.specs.declared.verdict.Verdict.{Verdict}
use Rattle.ticket_book.specs.declared.verdict.Verdict.TheVariants as verdicts
use Rattle.waiting_times.specs.Waits.{first_state, said_events}

pub verdict_runs : (knobs : KnobsView) (r : RecordView) (verdict : Verdict) → IsVerdict knobs r verdict
    → verdict_fault verdict ≡ None → (at : KnobsView) × IsRun at r.start (first_state r) (said_events r)
verdict_runs knobs r (verdicts.Run summary) is none = (knobs, is.run)
verdict_runs knobs r (verdicts.Fault fault) is none = cc

pub least_runs : (r : RecordView) (least : LeastFigures) → IsLeastAnswer r least → least_fault least ≡ None
    → (at : KnobsView) × IsRun at r.start (first_state r) (said_events r)
least_runs r (leasts.Found knobs places) is none = (knobs, is.0.0.run)
least_runs r (leasts.Fault fault) is none = cc
