-- Finding the real-time or deadline task that a text names, from left to right. What is found so is the relation of
-- RealTime.
use Rattle.std.specs.Prelude.{ℕ, List, [], ◌∷◌, Option, Some, None, Result, Ok, Err, ℤ}
use Rattle.cfs_model.specs.Limits.{greatest_pid}
use Rattle.sched_event.specs.declared.fault.EventFault.{EventFault}
use Rattle.sched_event.specs.declared.fault.EventFault.TheVariants.{RealTime}
use Rattle.sched_event.specs.declared.real_time.NamedTask.{NamedTask}
use Rattle.sched_event.specs.Judging.{number_within, printed_nice}
use Rattle.sched_event.specs.RealTime.{TaskText, tasks_named}
use Rattle.sched_event.specs.Texts.{EventText}

-- a name and a pid
pub record TaskView : Type 0 where
  pub name : List ℕ
  pub pid : ℕ

-- what is seen of a task in memory
abbrev pub task_view : NamedTask → TaskView
task_view task = record { name = task.name.now; pid = task.pid }

-- the task of this name and pid, where its prio is refused as a real-time or deadline task's
abbrev pub by_nice : List ℕ → ℕ → Result ℤ EventFault → Option TaskView
by_nice name pid (Err RealTime) = Some (record { name = name; pid = pid })
by_nice name pid _ = None

-- the same of a pid that may be out of range
abbrev pub by_pid : TaskText → Result ℕ EventFault → Option TaskView
by_pid task (Ok pid) = by_nice task.name pid (printed_nice pid task.prio)
by_pid task (Err fault) = None

-- the task of which a text says this, if it is such a task
abbrev pub real_time_of : TaskText → Option TaskView
real_time_of task = by_pid task (number_within greatest_pid task.pid)

-- what was found, or else what is found next
abbrev pub or_else : Option TaskView → Option TaskView → Option TaskView
or_else (Some found) next = Some found
or_else None next = next

-- the first such of a text's tasks
abbrev pub first_real_time : List TaskText → Option TaskView
first_real_time [] = None
first_real_time (task ∷ tasks) = or_else (real_time_of task) (first_real_time tasks)

-- the same of the parts that were read, if any
abbrev pub first_of : Option EventText → Option TaskView
first_of None = None
first_of (Some text) = first_real_time (tasks_named text)
