-- The longest wait of all tasks (this project's profile).
use Rattle.std.specs.Prelude.{ℕ, Option, Some, None, List, [], ◌∷◌}
use Rattle.std.specs.List.{flat_map}
use Rattle.waiting_times.specs.Waits.{duration, first_longest, later}
use Rattle.waiting_times.specs.declared.longest_wait.LongestWait.{LongestWait}
use Rattle.waiting_times.specs.declared.task_waits.TaskWaits.{TaskWaits}
use Rattle.waiting_times.specs.declared.wait.Wait.{Wait}

-- how long it was
abbrev pub takes : LongestWait → ℕ
takes longest = duration longest.wait

-- the longest wait of one task
abbrev pub own_wait : ℕ → Option Wait → List LongestWait
own_wait pid None = []
own_wait pid (Some wait) = record { pid = pid; wait = wait } ∷ []

-- the first of the longest of all tasks' waits
abbrev pub longest_of : List TaskWaits → Option LongestWait
longest_of tasks = first_longest takes (flat_map (λ (task : TaskWaits). own_wait task.pid task.longest) tasks)

-- the longest one so far, with that of one task more
abbrev pub later_wait : Option LongestWait → ℕ → Option Wait → Option LongestWait
later_wait longest pid None = longest
later_wait longest pid (Some wait) = Some (later takes longest (record { pid = pid; wait = wait }))
