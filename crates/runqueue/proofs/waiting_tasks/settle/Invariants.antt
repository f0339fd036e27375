use Rattle.std.proofs.Common.{◌≡◌, ◌≤◌, ◌<◌, true, drop, length, List, slice_set, ◌++◌, ◌∷◌, []}
use Rattle.std.specs.List.{insert, list_all}
use Rattle.std.specs.Ordering.{is_gt}
use Rattle.runqueue.specs.Entities.{by_runtime}
use Rattle.runqueue.specs.declared.waiting_task.WaitingTask.{WaitingTask}
use Rattle.runqueue.proofs.waiting_tasks.settle.Given as goal

abbrev pub invariant-loop-place : goal.invariant-loop-place
invariant-loop-place l = record {
  within : l.place < length l.list;
  settled : (tasks : List WaitingTask) → l.initial.list ≡ tasks ++ l.task ∷ [] → (l.place ≤ length tasks)
      × (slice_set l.list l.place l.task ≡ insert tasks l.place l.task)
      × (list_all (λ other. is_gt (by_runtime l.task other)) (drop l.place tasks) ≡ true);
}

abbrev pub decreases-loop-place : goal.decreases-loop-place
decreases-loop-place l = l.place
