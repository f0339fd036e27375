use Rattle.std.proofs.Common.{◌≡◌, take}
use Rattle.std.specs.BTreeSet.{contains}
use Rattle.runqueue.specs.Entities.{by_runtime}
use Rattle.runqueue.specs.WaitingTasks.{set_of}
use Rattle.runqueue.specs.declared.waiting_task.WaitingTask.{WaitingTask}
use Rattle.runqueue.proofs.waiting_tasks.tree_of.Given as goal

abbrev pub invariant-loop-task : goal.invariant-loop-task
invariant-loop-task l =
    (q : WaitingTask) → contains by_runtime l.tree q ≡ contains by_runtime (set_of (take l.task-index l.list)) q
