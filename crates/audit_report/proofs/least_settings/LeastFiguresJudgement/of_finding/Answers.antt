use Rattle.sched_record.specs.Record.{record_view}
use Rattle.audit_report.proofs.least_settings.LeastFiguresJudgement.of_finding.Goals as goal

pub of_stream-requires : goal.of_stream-requires
of_stream-requires c = (c.args._knobs, record_view c.args._joined.now, c.requires)

pub returns : goal.returns
returns c = c.of_stream.ensures c.args._knobs (record_view c.args._joined.now) c.requires
