use Rattle.std.proofs.Common.{◌≡◌, ◌+◌, if◌then◌else◌, length, sym, ap, ◌∙◌, subst, arith}
use Rattle.queue_replay.specs.Windowed.{WindowedView, windowed_view}
use Rattle.least_audit.specs.Candidates.{begin_of, idling_of, idlings_of}
use Rattle.least_audit.specs.FirstOf.{IsFirstOf}
use Rattle.least_audit.specs.Pursuers.{rises_of}
use Rattle.least_audit.specs.declared.rise.Rises.{Rises}
use Rattle.least_audit.proofs.Lists.{first_more, item_here}
use Rattle.least_audit.proofs.pursuers.first_idling.Goals as goal
use Rattle.least_audit.proofs.pursuers.first_idling.Goals.{then-idles_first, else-idles_first}

pub loop-pursuer-preserved : goal.loop-pursuer-preserved
loop-pursuer-preserved c =
    let all = c.args.pursuers.now in
    let i = c.loop-pursuer.pursuer-index in
    let item = c.pursuer-item.result in
    let next = c.idling-next.result in
    let first = c.loop-pursuer.first in
    let here = item_here all i item c.loop-pursuer-test.true c.pursuer-item.is in
    let more = first_more begin_of (idlings_of c.args.bound all) i first next c.loop-pursuer.invariant
    (ap (λ (v : WindowedView). idling_of c.args.bound v (rises_of all i)) here.0
    ∙ ap (λ (r : Rises). idling_of c.args.bound (windowed_view item.replay) r) here.1 ∙ sym c.idling-next.ensures)
    c.idles_first.result c.idles_first.ensures in
    elim c.if-idles_first.branch [
      | then-idles_first w ↦
          subst (IsFirstOf begin_of (idlings_of c.args.bound all) (i + 1))
          (ap (λ b. if b then next else first) w.if-idles_first.true ∙ sym w.first-is) more
      | else-idles_first w ↦
          subst (IsFirstOf begin_of (idlings_of c.args.bound all) (i + 1))
          (ap (λ b. if b then next else first) w.if-idles_first.false ∙ sym w.first-is) more
    ]

pub returns : goal.returns
returns c =
    let all = c.args.pursuers.now in
    let end : c.loop-pursuer.pursuer-index ≡ length all = omega (arith) in
    subst (λ n. IsFirstOf begin_of (idlings_of c.args.bound all) n c.loop-pursuer.first) end
    c.loop-pursuer.invariant
