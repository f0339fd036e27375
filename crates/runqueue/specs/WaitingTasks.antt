-- Those who wait at a processor, as contracts see them: a set (this project's profile).
use Rattle.std.specs.Prelude.{◌≡◌, ℕ, ◌-◌, ◌<◌, ◌≤◌, ◌&&◌, Bool, true, false, List, [], ◌∷◌, length, drop}
use Rattle.std.specs.Prelude.{slice_index_or}
use Rattle.std.specs.BTreeSet.{BTreeSet, contains}
use Rattle.std.specs.List.{insert, list_all}
use Rattle.std.specs.Ordering.{is_eq, is_gt}
use Rattle.runqueue.specs.Entities.{by_runtime}
use Rattle.runqueue.specs.declared.waiting_task.WaitingTask.{WaitingTask}

-- the set of these
abbrev pub set_of : List WaitingTask → BTreeSet WaitingTask
set_of tasks = record { keys = tasks }

-- each of a list stands above all behind it
abbrev pub falls : List WaitingTask → Bool
falls [] = true
falls (task ∷ tasks) = list_all (λ other. is_gt (by_runtime task other)) tasks && falls tasks

-- the set has a task, or hasn't, and each other task as before
pub record Updates (old new : BTreeSet WaitingTask) (task : WaitingTask) (has : Bool) : Type 0 where
  pub here : contains by_runtime new task ≡ has
  pub there : (other : WaitingTask) → is_eq (by_runtime task other) ≡ false
      → contains by_runtime new other ≡ contains by_runtime old other

-- a task stands at a place among others that are less from there on, and the one before isn't
pub record IsSettled (tasks : List WaitingTask) (task : WaitingTask) (place : ℕ) (all : List WaitingTask) : Type 0 where
  pub within : place ≤ length tasks
  pub all_is : all ≡ insert tasks place task
  pub less : list_all (λ other. is_gt (by_runtime task other)) (drop place tasks) ≡ true
  pub stops : (d : WaitingTask) → 0 < place
      → is_gt (by_runtime task (slice_index_or tasks (place - 1) d)) ≡ false
