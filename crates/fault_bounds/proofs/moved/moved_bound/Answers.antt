use Rattle.std.proofs.Common.{ap, ◌∙◌, subst}
use Rattle.std.specs.Option.{IfSome}
use Rattle.fault_bounds.specs.Bounds.{AreMovedNumbers, IsBesideMoved, IsReady}
use Rattle.fault_bounds.specs.declared.bound.Bound.{Bound}
use Rattle.fault_bounds.specs.declared.moment.Moment.{Moment}
use Rattle.fault_bounds.proofs.Moments.{if_some}
use Rattle.replay_model.specs.declared.step.Deed.TheVariants.{Arrive}
use Rattle.runqueue.specs.Queue.{runqueue_view}
use Rattle.sched_record.specs.Record.{record_view}
use Rattle.fault_bounds.proofs.moved.moved_bound.Goals as goal

pub returns-in-Some-2 : goal.returns-in-Some-2
returns-in-Some-2 c =
    let r = record_view c.args.joined.now in
    let there = c.in-Some-2.there in
    let here = c.in-Some.here in
    let task = c.args.task in
    if_some c.between.result
    (λ (b : Bound). IsBesideMoved (runqueue_view there.queue) (runqueue_view here.queue) here.step.claim c.in-Arrive.pid
    b.value b.limit)
    (λ (b : Bound). AreMovedNumbers c.args.knobs r c.args.cpu c.args.line task b.value b.limit)
    (λ b numbers. record {
      orig = c.in-Arrive.orig;
      there = runqueue_view there.queue;
      here = runqueue_view here.queue;
      left = there.step;
      came = here.step;
      nice = c.in-Arrive.nice;
      policy = c.in-Arrive.policy;
      leaves = subst (λ o. IfSome o (λ (m : Moment). IsReady c.args.knobs r c.in-Arrive.orig c.args.line
          (runqueue_view m.queue) m.step)) c.in-Some-2.is c.in_ok-there-in-Arrive.ensures;
      comes = subst (λ o. IfSome o (λ (m : Moment). IsReady c.args.knobs r c.args.cpu c.args.line
          (runqueue_view m.queue) m.step)) c.in-Some.is c.in_ok-here.ensures;
      deed = c.in-Arrive.is
          ∙ ap (λ p. Arrive p c.in-Arrive.nice c.in-Arrive.orig c.in-Arrive.policy) c.if-pid-task.true;
      numbers = subst (λ p. IsBesideMoved (runqueue_view there.queue) (runqueue_view here.queue) here.step.claim p
          b.value b.limit) c.if-pid-task.true numbers;
    }) c.between.ensures
