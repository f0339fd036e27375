use Rattle.std.proofs.Common.{◌≡◌, ◌∙◌, ap, subst, sym, Some, None, option_map, to_z, of_z, w64}
use Rattle.replay_model.specs.Deeds.{with_entity}
use Rattle.replay_model.specs.Part.{Part}
use Rattle.cfs_model.specs.declared.task.Place.TheVariants.{Run}
use Rattle.runqueue.specs.Queue.{runqueue_view}
use Rattle.runqueue.specs.Tasks.{entity_of, entity_from}
use Rattle.runqueue.specs.declared.sched_entity.SchedEntity.{SchedEntity}
use Rattle.runqueue.specs.TaskRows.{with_pid}
use Rattle.runqueue.proofs.Starts.{before_none, before_idle, one_pid_more, one_task_more}
use Rattle.runqueue.proofs.runqueue.Runqueue.of_tasks.Goals as goal

pub add-requires-clause-apart : goal.add-requires-clause-apart
add-requires-clause-apart c =
    let l = c.loop-task in
    let t = c.task-item.result in
    let P : SchedEntity → Type 0 = λ u. (runqueue_view l.queue).tasks u.pid ≡ None in
    subst P (sym c.of.ensures)
    (ap (λ (p : Part). p.tasks t.pid) l.invariant.part
    ∙ ap (option_map entity_from) (before_none c.args.tasks.now l.task-index t c.loop-task-test.true c.task-item.is
    c.requires.rise))

pub add-requires-clause-alone : goal.add-requires-clause-alone
add-requires-clause-alone c runs =
    let l = c.loop-task in
    let q = l.queue in
    let P : SchedEntity → Type 0 = λ u. u.place ≡ Run in
    before_idle c.args.tasks.now l.task-index c.task-item.result c.loop-task-test.true c.task-item.is c.requires.one
    (subst P c.of.ensures runs) (to_z w64 (of_z w64 c.args.floor)) c.args.mark
    (runqueue_view q) l.invariant.part

pub loop-task-preserved : goal.loop-task-preserved
loop-task-preserved c =
    let l = c.loop-task in
    let t = c.task-item.result in
    record {
      part = c.in_ok-add.ensures.part
          ∙ ap (λ (u : SchedEntity). with_entity (runqueue_view l.queue) u.pid (Some (entity_of u))) c.of.ensures
          ∙ ap (λ (p : Part). with_entity p t.pid (Some (entity_from t))) l.invariant.part
          ∙ one_task_more c.args.tasks.now l.task-index t c.loop-task-test.true c.task-item.is c.requires.rise
          (to_z w64 (of_z w64 c.args.floor)) c.args.mark;
      pids = c.in_ok-add.ensures.pids
          ∙ ap (λ (u : SchedEntity). with_pid u.pid l.queue.tasks.pids) c.of.ensures
          ∙ ap (with_pid t.pid) l.invariant.pids
          ∙ one_pid_more c.args.tasks.now l.task-index t c.loop-task-test.true c.task-item.is c.requires.rise;
    }
