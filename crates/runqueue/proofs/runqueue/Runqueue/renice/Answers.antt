use Rattle.std.proofs.Common.{Option, option_map, refl, sym, ap, subst, ◌∙◌}
use Rattle.runqueue.specs.declared.sched_entity.SchedEntity.{SchedEntity}
use Rattle.runqueue.specs.Entities.{IsQueue, entities, reniced_task}
use Rattle.runqueue.specs.Queue.{runqueue_view}
use Rattle.runqueue.proofs.Parts.{part_with}
use Rattle.runqueue.proofs.TaskRows.{runner_row_same}
use Rattle.runqueue.proofs.Renices.{nobody_changed, nobody_listed, reniced_part, reniced_queue, reniced_runner_row}
use Rattle.runqueue.proofs.Renices.{stands_listed, written}
use Rattle.runqueue.proofs.runqueue.Runqueue.renice.Goals as goal

pub returns-in_err-task-clause-part : goal.returns-in_err-task-clause-part
returns-in_err-task-clause-part c =
    let q = c.args.self.now in
    nobody_changed (runqueue_view q) c.args.pid c.args.nice
    (nobody_listed q.runner q.tasks q.waiting q.kept c.args.pid (sym c.in_err-task.ensures))

pub returns-in_err-task-clause-strange : goal.returns-in_err-task-clause-strange
returns-in_err-task-clause-strange c none =
    let q = c.args.self.now in
    nobody_listed q.runner q.tasks q.waiting q.kept c.args.pid (sym c.in_err-task.ensures)

pub invariant_of-self : goal.invariant_of-self
invariant_of-self c =
    let q = c.args.self.now in
    let n = c.write_over.new.tasks in
    let pid = c.args.pid in
    let nice = c.args.nice in
    record {
      kept = subst (λ (r : Option SchedEntity). IsQueue r c.write_over.new.tasks c.args.self.now.waiting)
          (sym c.reniced_runner-self.ensures)
          (reniced_queue q.tasks n pid nice
          (written q.tasks n pid nice c.in_ok-task.task
          (sym c.in_ok-task.ensures) c.write_over.ensures.written)
          q.runner q.waiting q.kept);
      in_row = runner_row_same (option_map (reniced_task pid nice) q.runner) c.reniced_runner-self.result q.tasks.pids
          n.pids q.runner_row q.runner_row c.reniced_runner-self.ensures c.write_over.ensures.pids refl
          (reniced_runner_row q.runner q.tasks.pids q.runner_row pid nice q.in_row);
    }

pub returns-clause-part : goal.returns-clause-part
returns-clause-part c =
    let q = c.args.self.now in
    let n = c.write_over.new.tasks in
    let pid = c.args.pid in
    let nice = c.args.nice in
    ap (λ (r : Option SchedEntity). part_with (entities r c.write_over.new.tasks) c.args.self.now.floor
    c.args.self.now.mark)
    c.reniced_runner-self.ensures
    ∙ reniced_part q.tasks n pid nice (written q.tasks n pid nice c.in_ok-task.task
    (sym c.in_ok-task.ensures) c.write_over.ensures.written)
    q.runner q.floor q.mark

pub returns-clause-stands : goal.returns-clause-stands
returns-clause-stands c some =
    let q = c.args.self.now in
    let n = c.write_over.new.tasks in
    let pid = c.args.pid in
    let nice = c.args.nice in
    stands_listed q.tasks n pid nice (written q.tasks n pid nice c.in_ok-task.task
    (sym c.in_ok-task.ensures) c.write_over.ensures.written)
    q.runner (λ e. let f = c.in_ok-task.ensures ∙ e in cc)
