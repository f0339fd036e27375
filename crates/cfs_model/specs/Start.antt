-- The machine that a companion's start, floors and tasks stand for (this project's profile).
use Rattle.std.specs.Prelude.{ℕ, ◌==◌, Bool, true, false, ◌&&◌, Option, option_map, ℤ, pos, List, find, slice_index_or}
use Rattle.std.specs.List.{list_any}
use Rattle.std.specs.Option.{option_map_or}
use Rattle.cfs_model.specs.Machine.{Machine, Pairs}
use Rattle.cfs_model.specs.declared.task.Place.{Place}
use Rattle.cfs_model.specs.declared.task.Place.TheVariants.{Run, Wait, Rest}
use Rattle.cfs_model.specs.declared.task.Task.{Task}
use Rattle.cfs_model.specs.declared.policy.Policy.{Policy}
use Rattle.cfs_model.specs.declared.policy.Policy.TheVariants.{Normal}

-- two places are one
abbrev pub place_eq : Place → Place → Bool
place_eq Run Run = true
place_eq Wait Wait = true
place_eq Rest Rest = true
place_eq _ _ = false

-- the pairs of a processor and a pid for which a task is named in this place
abbrev pub named_in : List Task → Place → Pairs
named_in tasks place cpu pid = list_any (λ t. (t.pid == pid) && ((t.cpu == cpu) && place_eq t.place place)) tasks

-- the task of a pid
abbrev pub task_of : List Task → ℕ → Option Task
task_of tasks pid = find (λ t. t.pid == pid) tasks

-- the policy of each task at the start
abbrev pub policies_at_start : List Task → ℕ → Policy
policies_at_start tasks pid = option_map_or (λ t. t.policy) (task_of tasks pid) Normal

-- each task in its place with its values and without a drift, and each processor with its floor and the start time as
-- its mark; a processor past the list of floors has floor 0
abbrev pub start_machine : ℕ → List ℤ → List Task → Machine
start_machine start floors tasks = record {
  running = named_in tasks Run;
  waiting = named_in tasks Wait;
  resting = named_in tasks Rest;
  runtime = λ pid. option_map (λ t. t.v) (task_of tasks pid);
  nice = λ pid. option_map (λ t. t.nice) (task_of tasks pid);
  policy = policies_at_start tasks;
  drift = λ pid. pos 0;
  floor = λ cpu. slice_index_or floors cpu (pos 0);
  mark = λ cpu. start;
}
