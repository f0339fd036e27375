use Rattle.std.proofs.Common.{◌∙◌, arith}
use Rattle.std.proofs.lemmas.List.{take_all}
use Rattle.replay_model.specs.Cut.{steps_at}
use Rattle.sched_record.specs.Window.{window_view}
use Rattle.sched_record.proofs.Windows.{said_length}
use Rattle.sched_record.proofs.WindowIndices.{deals_next}
use Rattle.sched_record.proofs.window.Window.deal.Goals as goal

pub push_step-requires : goal.push_step-requires
push_step-requires c =
    let self = c.args.self.now in
    let n = said_length self.events.items self.sayings self.paired in
    let h = c.in-Some.ensures.touching.within c.loop-index.index-index c.loop-index-test.true in
    omega (arith, n, h)

pub loop-index-preserved : goal.loop-index-preserved
loop-index-preserved c =
    deals_next c.args.cpu (window_view c.args.self.now) _ c.in-Some.ensures.touching c.loop-index.index-index
    c.loop-index.steps.items c.push_step.new.steps.items c.loop-index-test.true c.loop-index.invariant
    c.in_ok-push_step.ensures

pub returns : goal.returns
returns c =
    let n = c.in-Some.ensures.touching.count in
    let t = c.loop-index-test.false in
    c.loop-index.invariant
    ∙ take_all c.loop-index.index-index (steps_at c.args.cpu (window_view c.args.self.now)) (omega (arith, n, t))
