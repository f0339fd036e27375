use Rattle.std.proofs.Common.{subst, sym}
use Rattle.sched_record.specs.Record.{record_view}
use Rattle.waiting_times.specs.Waits.{AreWaits}
use Rattle.audit_report.proofs.with_waits.waits_beside.Goals as goal

pub returns-in_ok-waits-in-None-clause-run : goal.returns-in_ok-waits-in-None-clause-run
returns-in_ok-waits-in-None-clause-run c = λ none knobs run.
    subst (AreWaits (record_view c.args.joined.now) run.states) (sym c.from_vec.ensures)
    (c.in_ok-waits-in-None.ensures knobs run)
