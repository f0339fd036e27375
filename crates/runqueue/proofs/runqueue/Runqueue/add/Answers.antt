use Rattle.std.proofs.Common.{◌≡◌, ℤ, Some, true, refl, subst, ap, ◌∙◌, rules, to_z, of_z, w64}
use Rattle.runqueue.specs.Entities.{waiting_task}
use Rattle.runqueue.specs.TaskRows.{KeepsRows, with_pid}
use Rattle.runqueue.proofs.EntitiesKept.{no_runner, same_queue}
use Rattle.runqueue.proofs.Moved.{same_waiting_keys}
use Rattle.runqueue.proofs.Coming.{come_runs_alone, run_part_alone, come_rests, come_waits, come_part, on_err}
use Rattle.runqueue.specs.Queue.{HoldsSame}
use Rattle.runqueue.specs.WaitingTasks.{Updates}
use Rattle.runqueue.proofs.TaskRows.{keeps_same, runner_row_at, runner_row_kept, task_same, writes_from}
use Rattle.runqueue.proofs.runqueue.Runqueue.add.Goals as goal

pub invariant_of-self : goal.invariant_of-self
invariant_of-self c =
    let q = c.args.self.now in
    let room = c.make_room.new.self in
    let e = c.make_room.ensures in
    record {
      kept = same_queue q.runner q.tasks room q.waiting q.waiting (task_same q.tasks room e.pids e.rows)
          (λ v p. refl) q.kept;
      in_row = runner_row_kept q.runner q.tasks.pids room.pids q.runner_row q.in_row
          (keeps_same q.tasks.pids room.pids e.pids);
    }

pub returns-in_err-make_room-clause-same : goal.returns-in_err-make_room-clause-same
returns-in_err-make_room-clause-same c =
    let q = c.args.self.now in
    let e = c.make_room.ensures in
    on_err c.from_residual.result (HoldsSame q _)
    (record {
      pids = e.pids;
      tasks = task_same q.tasks c.make_room.new.self e.pids e.rows;
      waiting = λ v p. refl;
    })

pub invariant_of-self-in-Run : goal.invariant_of-self-in-Run
invariant_of-self-in-Run c =
    let q = c.args.self.now in
    let t = c.args.task in
    let e = c.make_room.ensures in
    record {
      kept = come_runs_alone q.runner q.tasks c.put-self.new.tasks q.waiting q.kept
          (no_runner q.runner q.tasks q.waiting q.floor q.mark q.kept (c.requires.alone c.in-Run.is)) t
          c.requires.apart
          (writes_from q.tasks c.make_room.new.self c.put-self.new.tasks t.pid (Some t) e.pids e.rows
          c.put-self.ensures.written) c.in-Run.is;
      in_row = runner_row_at t c.put-self.new.tasks.pids c.put-self.result c.put-self.ensures.row;
    }

pub returns-in-Run-clause-part : goal.returns-in-Run-clause-part
returns-in-Run-clause-part c =
    let q = c.args.self.now in
    let t = c.args.task in
    let e = c.make_room.ensures in
    run_part_alone q.runner q.tasks c.put-self.new.tasks q.waiting q.kept
    (no_runner q.runner q.tasks q.waiting q.floor q.mark q.kept (c.requires.alone c.in-Run.is)) t
    c.requires.apart
    (writes_from q.tasks c.make_room.new.self c.put-self.new.tasks t.pid (Some t) e.pids e.rows
    c.put-self.ensures.written) q.floor q.mark

pub invariant_of-self-in-Rest : goal.invariant_of-self-in-Rest
invariant_of-self-in-Rest c =
    let q = c.args.self.now in
    let t = c.args.task in
    let e = c.make_room.ensures in
    let n = c.put-row-in-Rest.new.tasks in
    record {
      kept = come_rests q.runner q.tasks n q.waiting q.kept t c.requires.apart
          (writes_from q.tasks c.make_room.new.self n t.pid (Some t) e.pids e.rows c.put-row-in-Rest.ensures.written)
          c.in-Rest.is;
      in_row = runner_row_kept q.runner q.tasks.pids n.pids q.runner_row q.in_row
          (subst (λ pids. KeepsRows pids n.pids) e.pids c.put-row-in-Rest.ensures.kept);
    }

pub returns-in-Rest-clause-part : goal.returns-in-Rest-clause-part
returns-in-Rest-clause-part c =
    let q = c.args.self.now in
    let t = c.args.task in
    let e = c.make_room.ensures in
    come_part q.runner q.tasks c.put-row-in-Rest.new.tasks q.waiting q.kept t c.requires.apart
    (writes_from q.tasks c.make_room.new.self c.put-row-in-Rest.new.tasks t.pid (Some t) e.pids e.rows
    c.put-row-in-Rest.ensures.written) q.floor q.mark

pub invariant_of-self-in-Wait : goal.invariant_of-self-in-Wait
invariant_of-self-in-Wait c =
    let q = c.args.self.now in
    let t = c.args.task in
    let e = c.make_room.ensures in
    let n = c.put-row.new.tasks in
    let whole : to_z w64 (of_z w64 t.v) ≡ t.v = search rules in
    record {
      kept = come_waits q.runner q.tasks n q.waiting q.kept t c.requires.apart
          (writes_from q.tasks c.make_room.new.self n t.pid (Some t) e.pids e.rows c.put-row.ensures.written)
          c.insert.new.self
          (subst (λ (v : ℤ). Updates q.waiting c.insert.new.self (waiting_task v t.pid) true)
          whole c.in_ok-insert-in-Wait.ensures.updates) c.in-Wait.is;
      in_row = runner_row_kept q.runner q.tasks.pids n.pids q.runner_row q.in_row
          (subst (λ pids. KeepsRows pids n.pids) e.pids c.put-row.ensures.kept);
    }

pub returns-in_ok-insert-in-Wait-clause-part : goal.returns-in_ok-insert-in-Wait-clause-part
returns-in_ok-insert-in-Wait-clause-part c =
    let q = c.args.self.now in
    let t = c.args.task in
    let e = c.make_room.ensures in
    come_part q.runner q.tasks c.put-row.new.tasks q.waiting q.kept t c.requires.apart
    (writes_from q.tasks c.make_room.new.self c.put-row.new.tasks t.pid (Some t) e.pids e.rows
    c.put-row.ensures.written) q.floor q.mark

pub invariant_of-self-in-Break-branch-2 : goal.invariant_of-self-in-Break-branch-2
invariant_of-self-in-Break-branch-2 c =
    let q = c.args.self.now in
    let room = c.make_room.new.self in
    let e = c.make_room.ensures in
    record {
      kept = same_queue q.runner q.tasks room q.waiting c.insert.new.self (task_same q.tasks room e.pids e.rows)
          (same_waiting_keys q.waiting c.insert.new.self c.in_err-insert-in-Wait.ensures.err) q.kept;
      in_row = runner_row_kept q.runner q.tasks.pids room.pids q.runner_row q.in_row
          (keeps_same q.tasks.pids room.pids e.pids);
    }

pub returns-in_err-insert-in-Wait-clause-same : goal.returns-in_err-insert-in-Wait-clause-same
returns-in_err-insert-in-Wait-clause-same c =
    let q = c.args.self.now in
    let e = c.make_room.ensures in
    on_err c.from_residual-in_err-insert-in-Wait.result (HoldsSame q _)
    (record {
      pids = e.pids;
      tasks = task_same q.tasks c.make_room.new.self e.pids e.rows;
      waiting = same_waiting_keys q.waiting c.insert.new.self c.in_err-insert-in-Wait.ensures.err;
    })

pub returns-in-Run-clause-pids : goal.returns-in-Run-clause-pids
returns-in-Run-clause-pids c = c.put-self.ensures.pids ∙ ap (with_pid c.args.task.pid) c.make_room.ensures.pids

pub returns-in-Rest-clause-pids : goal.returns-in-Rest-clause-pids
returns-in-Rest-clause-pids c = c.put-row-in-Rest.ensures.pids ∙ ap (with_pid c.args.task.pid) c.make_room.ensures.pids

pub returns-in_ok-insert-in-Wait-clause-pids : goal.returns-in_ok-insert-in-Wait-clause-pids
returns-in_ok-insert-in-Wait-clause-pids c =
    c.put-row.ensures.pids ∙ ap (with_pid c.args.task.pid) c.make_room.ensures.pids
