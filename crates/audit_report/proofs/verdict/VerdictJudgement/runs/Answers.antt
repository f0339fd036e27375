use Rattle.audit_report.proofs.NoFaults.{verdict_runs}
use Rattle.audit_report.proofs.verdict.VerdictJudgement.runs.Goals as goal

pub returns : goal.returns
returns c = verdict_runs
