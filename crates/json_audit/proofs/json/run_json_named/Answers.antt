use Rattle.sched_audit.proofs.Ended.{answered_as, reads_on, unwritten_as}
use Rattle.json_audit.proofs.json.run_json_named.Goals as goal

pub returns : goal.returns
returns g c =
    let hearing = c.in_ok-hearing.hearing in
    let heard = c.in_ok-hearing.ensures in
    let written = c.write_report.ensures in
    record {
      answered = answered_as _ _ _ c.write_report.result hearing.outcome hearing.tells_charges heard.outcome
          written.whole written.status;
      reads = reads_on _ _ hearing c.write_report.result heard.reads written.fault;
      written = written.written;
      write = written.write;
      front = λ e. (hearing.outcome, hearing.tells_charges, heard.outcome, written.front e);
      unwritten = unwritten_as c.write_report.result written.fault written.unwritten;
    }
