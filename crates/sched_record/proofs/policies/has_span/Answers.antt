use Rattle.std.proofs.Common.{◌<◌, ◌&&◌, length, eqb, get_or, sym, ap, ◌∙◌, arith}
use Rattle.std.proofs.lemmas.Bool.{eq-eqb, ne_eqb}
use Rattle.companion_file.specs.declared.idle_span.IdleSpan.{IdleSpan}
use Rattle.sched_record.proofs.SpanIndex.{has_no_span, span_at}
use Rattle.sched_record.proofs.policies.has_span.Goals as goal

abbrev none : IdleSpan
none = record { pid = 0; from = 0; until = 0 }

pub returns-then-index-spans : goal.returns-then-index-spans
returns-then-index-spans c =
    let end = c.if-index-spans.true in
    sym (has_no_span c.args.spans.now c.args.line c.args.pid c.span_index-index.result c.requires
    c.span_index-index.ensures
    (λ d within named starts. omega (arith, end, within)))

pub returns-then-span-pid : goal.returns-then-span-pid
returns-then-span-pid c =
    let before = c.if-index-spans.false in
    let bound = c.span_index-index.ensures.within in
    let within : c.span_index-index.result < length c.args.spans.now = omega (arith, before, bound) in
    sym (ap (λ b. b && eqb (get_or c.args.spans.now c.span_index-index.result none).from c.args.line)
    (eq-eqb _ _ c.if-span-pid.true))
    ∙ span_at c.args.spans.now c.args.line c.args.pid c.span_index-index.result none c.requires
    c.span_index-index.ensures within

pub returns-else-span-pid : goal.returns-else-span-pid
returns-else-span-pid c =
    let before = c.if-index-spans.false in
    let bound = c.span_index-index.ensures.within in
    let within : c.span_index-index.result < length c.args.spans.now = omega (arith, before, bound) in
    let other = ne_eqb _ _ c.if-span-pid.false in
    other ∙ sym (ap (λ b. b && eqb (get_or c.args.spans.now c.span_index-index.result none).from c.args.line) other)
    ∙ span_at c.args.spans.now c.args.line c.args.pid c.span_index-index.result none c.requires
    c.span_index-index.ensures within
