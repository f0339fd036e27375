use Rattle.std.proofs.Common.{subst, sym}
use Rattle.sched_audit.specs.Answer.{IsAnswer}
use Rattle.audit_input.specs.Refusals.{IsTexts}
use Rattle.sched_audit.proofs.Outcomes.{error_is, refused_answer}
use Rattle.sched_audit.proofs.judging.texts_judged.Goals as goal

pub returns-in_err-record : goal.returns-in_err-record
returns-in_err-record g c =
    let is_of = g.J.Judgement.is_of c.args.knobs in
    let trace = c.args.trace.now in
    let companion = c.args.companion.now in
    let refused = c.in_err-record.field-0.0 in
    let texts = c.record_of.ensures trace c.read_trace_wide-trace.ensures.answered in
    subst (IsAnswer is_of trace companion) (sym (error_is c.from_residual.result refused c.from_residual.ensures.1))
    (refused_answer is_of trace companion refused (subst (IsTexts trace companion) c.in_err-record.was texts))
