use Rattle.std.proofs.Common.{◌<◌, length, sym, ap, arith, ◌∙◌}
use Rattle.sched_record.proofs.Windows.{deals_all, deals_none, deals_one}
use Rattle.sched_record.proofs.window.Window.deal_by_all.Goals as goal
use Rattle.sched_record.proofs.window.Window.deal_by_all.Goals.{then-touches+in_ok-push_step, else-touches}

pub loop-index-preserved : goal.loop-index-preserved
loop-index-preserved c =
    let self = c.args.self.now in
    let i = c.loop-index.index in
    let n = c.len-index-end.ensures in
    let t = c.loop-index-test.true in
    let within : i < length self.sayings = omega (arith, n, t) in
    elim c.if-touches.branch [
      | then-touches+in_ok-push_step w ↦
          ap (λ s. s.items) w.steps-is
          ∙ deals_one c.args.cpu self.events.items self.sayings i self.paired within c.index.result.now
          c.loop-index.steps.items w.push_step.new.steps.items c.index.ensures
          (sym c.touches.ensures ∙ w.if-touches.true) c.loop-index.invariant w.in_ok-push_step.ensures
      | else-touches w ↦
          ap (λ s. s.items) w.steps-is
          ∙ deals_none c.args.cpu self.events.items self.sayings i self.paired within c.index.result.now
          c.loop-index.steps.items c.index.ensures (sym c.touches.ensures ∙ w.if-touches.false)
          c.loop-index.invariant
    ]

pub returns : goal.returns
returns c =
    let self = c.args.self.now in
    deals_all c.args.cpu self.events.items self.sayings c.loop-index.index c.loop-index.steps.items self.paired
    (let n = c.len-index-end.ensures in let t = c.loop-index-test.false in omega (arith, n, t)) c.loop-index.invariant
