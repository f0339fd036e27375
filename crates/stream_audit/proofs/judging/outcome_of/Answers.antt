use Rattle.std.proofs.Common.{ap, subst, sym, ◌∙◌}
use Rattle.stream_audit.specs.Course.{IsClosingOf}
use Rattle.stream_audit.specs.Hearing.{IsRefusalOf}
use Rattle.stream_audit.specs.declared.course.Closing.{Closing}
use Rattle.stream_audit.specs.declared.course.Closing.TheVariants as closings
use Rattle.stream_audit.proofs.Heard.{companion_refused, join_refused, judged}
use Rattle.stream_audit.proofs.judging.outcome_of.Goals as goal

pub returns-in-Joined-Judged : goal.returns-in-Joined-Judged
returns-in-Joined-Judged c = λ aim trace companion events are closing.
    let arm = c.in-Joined-Judged in
    judged aim trace companion events arm.finding are
    (subst (λ (x : Closing). IsClosingOf aim companion events x) (arm.is ∙ ap closings.Joined arm.field-0-is) closing)

pub returns-in-Joined-Apart : goal.returns-in-Joined-Apart
returns-in-Joined-Apart c = λ aim trace companion events are closing.
    let arm = c.in-Joined-Apart in
    c.refused.ensures aim trace companion (subst (IsRefusalOf trace companion) (sym c.into.ensures)
    (join_refused aim trace companion events arm.fault are
    (subst (λ (x : Closing). IsClosingOf aim companion events x) (arm.is ∙ ap closings.Joined arm.field-0-is)
    closing)))

pub returns-in-Refused : goal.returns-in-Refused
returns-in-Refused c = λ aim trace companion events are closing.
    c.refused-in-Refused.ensures aim trace companion
    (subst (IsRefusalOf trace companion) (sym c.into-in-Refused.ensures)
    (companion_refused aim trace companion events c.in-Refused.fault are
    (subst (λ (x : Closing). IsClosingOf aim companion events x) c.in-Refused.is closing)))
