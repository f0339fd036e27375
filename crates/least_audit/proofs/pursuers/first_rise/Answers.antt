use Rattle.std.proofs.Common.{◌≡◌, ◌+◌, if◌then◌else◌, length, sym, ap, ◌∙◌, subst, arith}
use Rattle.queue_replay.specs.Windowed.{WindowedView, windowed_view}
use Rattle.least_audit.specs.Candidates.{line_of, rise_to, rises_to}
use Rattle.least_audit.specs.FirstOf.{IsFirstOf}
use Rattle.least_audit.specs.Pursuers.{rises_of}
use Rattle.least_audit.specs.declared.rise.Rises.{Rises}
use Rattle.least_audit.proofs.Lists.{first_more, item_here}
use Rattle.least_audit.proofs.pursuers.first_rise.Goals as goal
use Rattle.least_audit.proofs.pursuers.first_rise.Goals.{then-rises_first, else-rises_first}

pub loop-pursuer-preserved : goal.loop-pursuer-preserved
loop-pursuer-preserved c =
    let all = c.args.pursuers.now in
    let i = c.loop-pursuer.pursuer-index in
    let item = c.pursuer-item.result in
    let next = c.rise_to-next.result in
    let first = c.loop-pursuer.first in
    let here = item_here all i item c.loop-pursuer-test.true c.pursuer-item.is in
    let more = first_more line_of (rises_to c.args.setting c.args.value all) i first next c.loop-pursuer.invariant
    (ap (λ (v : WindowedView). rise_to c.args.setting c.args.value v (rises_of all i)) here.0
    ∙ ap (λ (r : Rises). rise_to c.args.setting c.args.value (windowed_view item.replay) r) here.1
    ∙ sym c.rise_to-next.ensures)
    c.rises_first.result c.rises_first.ensures in
    elim c.if-rises_first.branch [
      | then-rises_first w ↦
          subst (IsFirstOf line_of (rises_to c.args.setting c.args.value all) (i + 1))
          (ap (λ b. if b then next else first) w.if-rises_first.true ∙ sym w.first-is) more
      | else-rises_first w ↦
          subst (IsFirstOf line_of (rises_to c.args.setting c.args.value all) (i + 1))
          (ap (λ b. if b then next else first) w.if-rises_first.false ∙ sym w.first-is) more
    ]

pub returns : goal.returns
returns c =
    let all = c.args.pursuers.now in
    let end : c.loop-pursuer.pursuer-index ≡ length all = omega (arith) in
    subst (λ n. IsFirstOf line_of (rises_to c.args.setting c.args.value all) n c.loop-pursuer.first) end
    c.loop-pursuer.invariant
