use Rattle.std.proofs.Common.{◌≡◌, ℕ, suc, ◌+◌, length, sym, ap, ◌∙◌, arith}
use Rattle.cfs_model.specs.Knobs.{KnobsView}
use Rattle.cfs_model.specs.Least.{larger}
use Rattle.queue_replay.specs.Windowed.{WindowedView}
use Rattle.replay_model.specs.Needs.{idle_need, largest, only_slack}
use Rattle.least_audit.specs.Pursuers.{view_at}
use Rattle.least_audit.proofs.Lists.{item_here}
use Rattle.least_audit.proofs.pursuers.needs_at.Goals as goal

pub loop-pursuer-preserved : goal.loop-pursuer-preserved
loop-pursuer-preserved c =
    let all = c.args.pursuers.now in
    let i = c.loop-pursuer.pursuer-index in
    let at : WindowedView → KnobsView =
    λ v. larger v.needs (only_slack (idle_need v.state.since c.args.time)) in
    let needs : ℕ → KnobsView = λ cpu. at (view_at all cpu) in
    let next : suc i ≡ i + 1 = omega arith in
    let here = item_here all i c.pursuer-item.result c.loop-pursuer-test.true c.pursuer-item.is in
    c.larger-largest.ensures ∙ ap (λ n. larger n c.needs_at.result) c.loop-pursuer.invariant
    ∙ ap (larger (largest needs i)) (c.needs_at.ensures ∙ ap at (sym here.0)) ∙ ap (largest needs) next

pub returns : goal.returns
returns c =
    let all = c.args.pursuers.now in
    let at : WindowedView → KnobsView =
    λ v. larger v.needs (only_slack (idle_need v.state.since c.args.time)) in
    let end : c.loop-pursuer.pursuer-index ≡ length all = omega (arith) in
    c.loop-pursuer.invariant ∙ ap (largest (λ cpu. at (view_at all cpu))) end
