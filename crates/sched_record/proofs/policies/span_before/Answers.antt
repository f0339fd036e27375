use Rattle.std.proofs.Common.{◌-◌, ap, ◌∙◌, arith}
use Rattle.std.proofs.lemmas.List.{get_or_default}
use Rattle.companion_file.specs.declared.idle_span.IdleSpan.{IdleSpan}
use Rattle.sched_record.proofs.SpanIndex.{none_before}
use Rattle.sched_record.proofs.policies.span_before.Goals as goal
use Rattle.sched_record.proofs.policies.span_before.Goals.{else-index-gt0-via-then-index-gt0+else-spans-index}
use Rattle.sched_record.proofs.policies.span_before.Goals.{else-index-gt0-via-else-index-gt0}

pub returns-else-index-gt0-clause-none : goal.returns-else-index-gt0-clause-none
returns-else-index-gt0-clause-none c =
    let at = c.span_index-index.ensures in
    let within = at.within in
    none_before c.args.spans.now c.args.line c.args.pid c.span_index-index.result c.requires at
    (λ d some named. elim c.else-index-gt0.branch [
      | else-index-gt0-via-then-index-gt0+else-spans-index w ↦
          w.if-spans-index.false (ap (λ (s : IdleSpan). s.pid)
          (get_or_default c.args.spans.now (c.span_index-index.result - 1) _ d (omega (arith, within, some)))
          ∙ named)
      | else-index-gt0-via-else-index-gt0 w ↦ (let none = w.if-index-gt0.false in absurd (omega (arith, none, some)))
    ])
