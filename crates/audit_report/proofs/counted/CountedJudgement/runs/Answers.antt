use Rattle.audit_report.proofs.NoFaults.{verdict_runs}
use Rattle.audit_report.proofs.counted.CountedJudgement.runs.Goals as goal

pub returns : goal.returns
returns c = λ knobs r counted. verdict_runs knobs r counted.verdict
