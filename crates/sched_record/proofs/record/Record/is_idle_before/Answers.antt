use Rattle.std.proofs.Common.{◌≡◌, ℕ, ◌<◌, ◌||◌, List, eqb, leb, get_or, sym, ap, ◌∙◌, subst, arith}
use Rattle.std.proofs.lemmas.Bool.{eq-eqb, ne_eqb}
use Rattle.std.proofs.lemmas.List.{get_or_default}
use Rattle.cfs_model.specs.Claimed.{policies_before, policy_by}
use Rattle.cfs_model.specs.Start.{policies_at_start}
use Rattle.companion_file.specs.declared.idle_span.IdleSpan.{IdleSpan}
use Rattle.sched_record.specs.Policies.{IsLastBefore, NoneBefore}
use Rattle.sched_record.specs.Record.{record_view}
use Rattle.sched_record.specs.declared.record.Record.{Record}
use Rattle.sched_record.proofs.PolicyTold.{idle_before, not_idle_before}
use Rattle.sched_record.proofs.record.Record.is_idle_before.Goals as goal
use Rattle.cfs_model.specs.declared.policy.Policy.{Policy}
use Rattle.cfs_model.specs.declared.policy.Policy.TheVariants.{Normal}

abbrev no_span : IdleSpan
no_span = record { pid = 0; from = 0; until = 0 }

-- the policies in a record before a line
abbrev policy_here : Record → ℕ → ℕ → Policy
policy_here record_here line pid =
    let r = record_view record_here in
    policies_before r.idles (policies_at_start r.tasks) r.events line pid

-- a record's spans tell it
told_by_span : (r : Record) (spans : List IdleSpan) (line pid index : ℕ) → spans ≡ r.companion.spans → 0 < line
    → IsLastBefore spans line pid index
    → policy_here r line pid
    ≡ policy_by (eqb (get_or spans index no_span).until 0 || leb line (get_or spans index no_span).until)
told_by_span r spans line pid index same some last =
    idle_before r.companion.idles r.companion.spans (policies_at_start r.companion.tasks) (record_view r).events line
    pid
    index (get_or spans index no_span)
    r.in_order.events.lines_rise r.in_order.events.from_one r.companion.spans_told r.in_order.born r.spans_end
    (sym (r.in_order.companion.policies_told pid)) some
    (subst (λ ss. IsLastBefore ss line pid index) same last)
    (get_or_default spans index no_span (get_or spans index no_span) last.within
    ∙ ap (λ ss. get_or ss index (get_or spans index no_span)) same)

told_by_none : (r : Record) (spans : List IdleSpan) (line pid : ℕ) → spans ≡ r.companion.spans → 0 < line
    → NoneBefore spans line pid
    → policy_here r line pid ≡ Normal
told_by_none r spans line pid same some none =
    not_idle_before r.companion.idles r.companion.spans (policies_at_start r.companion.tasks) (record_view r).events
    line pid
    r.companion.spans_told
    (sym (r.in_order.companion.policies_told pid)) some (subst (λ ss. NoneBefore ss line pid) same none)

-- a span without an end, and one with an end
endless : (until line : ℕ) (policy : Policy) → until ≡ 0 → policy ≡ policy_by (eqb until 0 || leb line until)
    → policy_by (eqb until 0) ≡ policy
endless until line policy none is = ap policy_by (eq-eqb until 0 none)
    ∙ sym (is ∙ ap (λ b. policy_by (b || leb line until)) (eq-eqb until 0 none))

ending : (until line : ℕ) (policy : Policy) → 0 < until → policy ≡ policy_by (eqb until 0 || leb line until)
    → policy_by (leb line until) ≡ policy
ending until line policy some is = sym (is ∙ ap (λ b. policy_by (b || leb line until))
    (ne_eqb until 0 (λ none. omega (arith, none, some))))

pub returns-then-until-eq-NO_LINE : goal.returns-then-until-eq-NO_LINE
returns-then-until-eq-NO_LINE c =
    let spans = c.spans-spans.result.now in
    endless (get_or spans c.in-Some.index no_span).until c.args.line (policy_here c.args.self.now c.args.line
    c.args.pid)
    (omega (arith, c.if-until-eq-NO_LINE.true))
    (told_by_span c.args.self.now spans c.args.line c.args.pid c.in-Some.index c.spans-spans.ensures c.requires
    c.in-Some.ensures.found)

pub returns-else-until-eq-NO_LINE : goal.returns-else-until-eq-NO_LINE
returns-else-until-eq-NO_LINE c =
    let spans = c.spans-spans.result.now in
    ending (get_or spans c.in-Some.index no_span).until c.args.line (policy_here c.args.self.now c.args.line c.args.pid)
    (omega (arith, c.if-until-eq-NO_LINE.false))
    (told_by_span c.args.self.now spans c.args.line c.args.pid c.in-Some.index c.spans-spans.ensures c.requires
    c.in-Some.ensures.found)

pub returns-in-None : goal.returns-in-None
returns-in-None c =
    sym (told_by_none c.args.self.now c.spans-spans.result.now c.args.line c.args.pid c.spans-spans.ensures c.requires
    c.in-None.ensures.none)
