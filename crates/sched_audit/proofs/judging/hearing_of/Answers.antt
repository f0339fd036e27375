use Rattle.std.proofs.Common.{subst}
use Rattle.sched_record.specs.Record.{record_view}
use Rattle.audit_input.specs.Texts.{IsRecordOf}
use Rattle.sched_audit.proofs.judging.hearing_of.Goals as goal

pub returns-in-Err-Text-clause-outcome : goal.returns-in-Err-Text-clause-outcome
returns-in-Err-Text-clause-outcome g c text tells =
    let refused = c.in-Err-Text in
    rw (refused.source-is, refused.line-is, refused.cause-is, ← c.as_slice-text.ensures.value)
    (rw refused.field-0-is at (refused.ensures text tells))

pub returns-in_ok-judged-in-Ok-clause-outcome : goal.returns-in_ok-judged-in-Ok-clause-outcome
returns-in_ok-judged-in-Ok-clause-outcome g c text tells =
    let joined = record_view c.in-Ok.record in (
      joined,
      subst (λ bytes. IsRecordOf text bytes joined) c.as_slice-text.ensures.value (c.in-Ok.ensures text tells),
      c.in_ok-judged-in-Ok.ensures,
    )

pub returns-in-Err-Text-clause-heard : goal.returns-in-Err-Text-clause-heard
returns-in-Err-Text-clause-heard g c text tells =
    let refused = c.in-Err-Text in
    rw (refused.source-is, refused.line-is, refused.cause-is, ← c.as_slice-text.ensures.value)
    (rw refused.field-0-is at (refused.ensures text tells))

pub returns-in_ok-judged-in-Ok-clause-heard : goal.returns-in_ok-judged-in-Ok-clause-heard
returns-in_ok-judged-in-Ok-clause-heard g c text tells = (
  subst (λ bytes. IsRecordOf text bytes (record_view c.in-Ok.record)) c.as_slice-text.ensures.value
      (c.in-Ok.ensures text tells),
  c.in_ok-judged-in-Ok.ensures,
)
