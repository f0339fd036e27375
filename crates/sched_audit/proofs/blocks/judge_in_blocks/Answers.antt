use Rattle.std.proofs.Common.{◌≡◌, ap, subst, ◌∙◌}
use Rattle.stream_audit.specs.Aim.{AimView}
use Rattle.stream_audit.specs.Hearing.{IsHearingOf, IsOutcome}
use Rattle.sched_audit.proofs.InBlocks.{aim_of, outcome_heard}
use Rattle.sched_audit.proofs.blocks.judge_in_blocks.Goals as goal

pub streamed-requires : goal.streamed-requires
streamed-requires g c =
    let heard = c.in_ok-heard.heard in
    let h = c.in_ok-heard.ensures.outcome in
    let same : c.new-aim.result ≡ aim_of c.args.knobs g.J.Judgement.is_least =
    c.new-aim.ensures ∙ ap (aim_of c.args.knobs) c.is_least.ensures in (
      c.args.knobs,
      h.trace_bytes,
      h.companion_bytes,
      subst (λ (a : AimView). IsOutcome a h.trace_bytes h.companion_bytes heard.outcome) same h.answer,
    )

pub returns-clause-outcome : goal.returns-clause-outcome
returns-clause-outcome g c =
    let heard = c.in_ok-heard.heard in
    let same : c.new-aim.result ≡ aim_of c.args.knobs g.J.Judgement.is_least =
    c.new-aim.ensures ∙ ap (aim_of c.args.knobs) c.is_least.ensures in
    outcome_heard (g.J.Judgement.is_of c.args.knobs) (aim_of c.args.knobs g.J.Judgement.is_least)
    (g.T.Feed.left c.args.trace.now) (g.C.Feed.left c.args.companion.now) heard
    c.streamed.result (c.streamed.ensures c.args.knobs)
    (subst (λ (a : AimView). IsHearingOf a (g.T.Feed.left c.args.trace.now)
    (g.C.Feed.left c.args.companion.now) heard) same c.in_ok-heard.ensures.outcome)
