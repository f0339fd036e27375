use Rattle.audit_report.proofs.with_waits.WithWaitsJudgement.runs.Goals as goal

pub returns : goal.returns
returns g c = λ knobs r told is none. c.runs.ensures knobs r told.judged is.0 none
