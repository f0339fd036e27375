use Rattle.audit_report.proofs.NoFaults.{least_runs}
use Rattle.audit_report.proofs.least_settings.LeastFiguresJudgement.runs.Goals as goal

pub returns : goal.returns
returns c = λ knobs. least_runs
