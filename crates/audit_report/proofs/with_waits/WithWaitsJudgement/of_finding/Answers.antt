use Rattle.std.proofs.Common.{◌∙◌, IsSome, subst, sym}
use Rattle.sched_record.specs.Record.{record_view}
use Rattle.audit_report.proofs.Besides.{waits_are_beside}
use Rattle.audit_report.proofs.with_waits.WithWaitsJudgement.of_finding.Goals as goal

pub returns : goal.returns
returns g c =
    let r = record_view c.args.joined.now in
    let judged = c.in_ok-judged.judged in
    let beside = c.in_ok-waits.ensures in (
      c.in_ok-judged.ensures,
      waits_are_beside r (g.J.Judgement.fault judged) c.in_ok-waits.waits
          (λ some. beside.fault (subst (λ o. IsSome o) (sym c.fault.ensures) some))
          (λ none. beside.run (c.fault.ensures ∙ none))
          (λ none. c.runs.ensures c.args.knobs r judged c.in_ok-judged.ensures none),
    )
