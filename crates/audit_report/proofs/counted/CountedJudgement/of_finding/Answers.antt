use Rattle.sched_record.specs.Record.{record_view}
use Rattle.audit_report.proofs.counted.CountedJudgement.of_finding.Goals as goal

pub returns : goal.returns
returns c = c.of_stream.ensures c.args._knobs (record_view c.args._joined.now) c.requires
