use Rattle.std.proofs.Common.{◌≡◌, ℤ, false, subst, sym, ◌∙◌, rules, to_z, of_z, w64}
use Rattle.runqueue.specs.Entities.{waiting_task}
use Rattle.runqueue.specs.WaitingTasks.{Updates}
use Rattle.runqueue.proofs.Moved.{gone_queue, nowhere_queue, gone_entities}
use Rattle.runqueue.proofs.TaskRows.{keeps_same, runner_row_kept}
use Rattle.runqueue.proofs.runqueue.Runqueue.remove.Goals as goal

pub invariant_of-self : goal.invariant_of-self
invariant_of-self c =
    let q = c.args.self.now in
    let t = c.in-Some.task in
    let whole : to_z w64 (of_z w64 t.v) ≡ t.v = search rules in
    record {
      kept = gone_queue q.runner q.tasks c.take_out.new.tasks q.waiting q.kept c.args.pid c.requires
          c.take_out.ensures.gone c.remove.new.self t
          (sym c.take_out.ensures.value ∙ c.in-Some.is)
          (subst (λ (v : ℤ). Updates q.waiting c.remove.new.self
          (waiting_task v c.args.pid) false) whole c.remove.ensures.updates);
      in_row = runner_row_kept q.runner q.tasks.pids c.take_out.new.tasks.pids q.runner_row q.in_row
          (keeps_same q.tasks.pids c.take_out.new.tasks.pids c.take_out.ensures.pids);
    }

pub invariant_of-self-in_default : goal.invariant_of-self-in_default
invariant_of-self-in_default c =
    let q = c.args.self.now in
    record {
      kept = nowhere_queue q.runner q.tasks c.take_out.new.tasks q.waiting q.kept c.args.pid c.requires
          c.take_out.ensures.gone
          (sym c.take_out.ensures.value ∙ c.in_default.is);
      in_row = runner_row_kept q.runner q.tasks.pids c.take_out.new.tasks.pids q.runner_row q.in_row
          (keeps_same q.tasks.pids c.take_out.new.tasks.pids c.take_out.ensures.pids);
    }

pub returns-in-Some-clause-part : goal.returns-in-Some-clause-part
returns-in-Some-clause-part c =
    let q = c.args.self.now in
    gone_entities q.runner q.tasks c.take_out.new.tasks q.waiting q.kept c.args.pid c.requires c.take_out.ensures.gone
    q.floor q.mark

pub returns-in_default-clause-part : goal.returns-in_default-clause-part
returns-in_default-clause-part c =
    let q = c.args.self.now in
    gone_entities q.runner q.tasks c.take_out.new.tasks q.waiting q.kept c.args.pid c.requires c.take_out.ensures.gone
    q.floor q.mark
