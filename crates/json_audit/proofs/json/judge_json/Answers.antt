use Rattle.std.proofs.Common.{subst, sym}
use Rattle.report_json.specs.Timed.{is_timed_named}
use Rattle.sched_audit.specs.Run.{IsKept, IsOutcomeOf}
use Rattle.json_audit.proofs.Named.{kept_named, outcome_named}
use Rattle.json_audit.proofs.json.judge_json.Goals as goal

pub returns-clause-outcome : goal.returns-clause-outcome
returns-clause-outcome g c =
    let fault_of = g.J.Judgement.fault in
    let is_of = g.J.Judgement.is_of c.args.knobs in
    let knobs = g.J.Judgement.replayed_by c.args.knobs in
    let trace = g.T.Feed.left c.args.trace.now in
    let companion = g.C.Feed.left c.args.companion.now in
    let hearing = c.in_ok-hearing.hearing in
    subst (λ outcome. IsOutcomeOf (is_timed_named knobs fault_of is_of) trace companion outcome hearing.tells_charges)
    (sym c.outcome_with.ensures) (outcome_named knobs fault_of is_of c.in_ok-name.name trace companion hearing.outcome
    hearing.kept hearing.tells_charges c.in_ok-hearing.ensures.heard c.in_ok-name.ensures)

pub returns-clause-kept : goal.returns-clause-kept
returns-clause-kept g c =
    let fault_of = g.J.Judgement.fault in
    let is_of = g.J.Judgement.is_of c.args.knobs in
    let knobs = g.J.Judgement.replayed_by c.args.knobs in
    let companion = g.C.Feed.left c.args.companion.now in
    let hearing = c.in_ok-hearing.hearing in
    subst (λ outcome. IsKept (is_timed_named knobs fault_of is_of) companion outcome hearing.kept)
    (sym c.outcome_with.ensures) (kept_named knobs fault_of is_of c.in_ok-name.name companion hearing.outcome
    hearing.kept c.in_ok-hearing.ensures.kept c.in_ok-name.ensures)
