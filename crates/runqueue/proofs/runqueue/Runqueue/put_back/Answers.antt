use Rattle.std.proofs.Common.{◌≡◌, ℤ, true, subst, refl, rules, Some, to_z, of_z, w64, None}
use Rattle.cfs_model.specs.declared.act.Way.TheVariants.{Stays}
use Rattle.runqueue.specs.Entities.{waiting_task}
use Rattle.runqueue.specs.WaitingTasks.{Updates}
use Rattle.runqueue.proofs.Moved.{kept_runner, back_queue, runner_leaves}
use Rattle.runqueue.proofs.EntitiesKept.{nobody_runs}
use Rattle.runqueue.proofs.TaskRows.{runner_row_is, runner_row_none}
use Rattle.runqueue.proofs.runqueue.Runqueue.put_back.Goals as goal

pub write_row-requires : goal.write_row-requires
write_row-requires c =
    let q = c.args.self.now in
    let t = c.args.runner in
    (t.pid, runner_row_is q.runner q.tasks.pids q.runner_row q.in_row t c.requires)

pub invariant_of-self-2 : goal.invariant_of-self-2
invariant_of-self-2 c =
    let q = c.args.self.now in
    let row = runner_row_is q.runner q.tasks.pids q.runner_row q.in_row c.args.runner c.requires in
    let written = c.write_row.ensures.written c.args.runner.pid row in
    let t = c.args.runner in
    let whole : to_z w64 (of_z w64 t.v) ≡ t.v = search rules in
    record {
      kept = back_queue q.tasks c.write_row.new.tasks q.waiting t
          (kept_runner q.runner q.tasks q.waiting (Some t) q.kept c.requires) _ written
          c.insert.new.self (subst (λ (v : ℤ). Updates q.waiting c.insert.new.self
          (waiting_task v t.pid) true) whole c.in_ok-insert.ensures.updates) refl;
      in_row = runner_row_none None c.write_row.new.tasks.pids q.runner_row refl;
    }

pub returns-clause-part : goal.returns-clause-part
returns-clause-part c =
    let q = c.args.self.now in
    let row = runner_row_is q.runner q.tasks.pids q.runner_row q.in_row c.args.runner c.requires in
    let written = c.write_row.ensures.written c.args.runner.pid row in
    runner_leaves q.runner q.tasks c.write_row.new.tasks q.waiting c.args.runner q.kept c.requires _
    written q.floor q.mark Stays refl

pub returns-clause-nobody : goal.returns-clause-nobody
returns-clause-nobody c =
    let q = c.args.self.now in
    let row = runner_row_is q.runner q.tasks.pids q.runner_row q.in_row c.args.runner c.requires in
    let written = c.write_row.ensures.written c.args.runner.pid row in
    let t = c.args.runner in
    let whole : to_z w64 (of_z w64 t.v) ≡ t.v = search rules in
    nobody_runs None c.write_row.new.tasks c.insert.new.self q.floor q.mark
    (back_queue q.tasks c.write_row.new.tasks q.waiting t
    (kept_runner q.runner q.tasks q.waiting (Some t) q.kept c.requires) _ written
    c.insert.new.self (subst (λ (v : ℤ). Updates q.waiting c.insert.new.self (waiting_task v t.pid) true)
    whole c.in_ok-insert.ensures.updates) refl)
    refl
