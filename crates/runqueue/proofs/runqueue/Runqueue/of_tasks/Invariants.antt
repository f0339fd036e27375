use Rattle.std.proofs.Common.{◌≡◌, map, take}
use Rattle.replay_model.specs.PartWords.{start_part}
use Rattle.runqueue.specs.Queue.{runqueue_view}
use Rattle.runqueue.proofs.runqueue.Runqueue.of_tasks.Given as goal

abbrev pub invariant-loop-task : goal.invariant-loop-task
invariant-loop-task l = record {
  part : runqueue_view l.queue ≡ start_part (take l.task-index l.tasks) l.floor l.mark;
  pids : l.queue.tasks.pids ≡ map (λ task. task.pid) (take l.task-index l.tasks);
}
