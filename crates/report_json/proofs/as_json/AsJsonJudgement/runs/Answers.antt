use Rattle.report_json.proofs.as_json.AsJsonJudgement.runs.Goals as goal

pub returns : goal.returns
returns g c = λ knobs r told is none. c.runs.ensures knobs r told.judged is.0.0 none
