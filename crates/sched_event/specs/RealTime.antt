-- The real-time or deadline task that a text names (the print formats of the scheduler's trace events; prios below 100
-- are no fair task's).
use Rattle.std.specs.Prelude.{◌≡◌, ◌≢◌, ℕ, ◌≤◌, pos, ◌<ℤ◌, List, [], ◌∷◌, ◌++◌}
use Rattle.std.specs.List.{AllByRecursion}
use Rattle.ftrace_line.specs.declared.kinds.Which.{Which}
use Rattle.cfs_model.specs.Limits.{greatest_pid, idle_pid}
use Rattle.text_parts.specs.Numerals.{value_of}
use Rattle.sched_event.specs.Texts.{Prio, EventText, switch, wakeup, wakeup_new, migration, Reads}
use Rattle.sched_event.specs.Ranges.{prio_of}

-- what a text says of one task: its name, the digits of its pid, and its prio
pub record TaskText : Type 0 where
  pub name : List ℕ
  pub pid : List ℕ
  pub prio : Prio

-- the tasks that a text names, from the left
abbrev pub tasks_named : EventText → List TaskText
tasks_named (switch text) = record { name = text.prev_name; pid = text.prev; prio = text.prev_prio }
    ∷ record { name = text.next_name; pid = text.next; prio = text.next_prio } ∷ []
tasks_named (wakeup text) = record { name = text.name; pid = text.pid; prio = text.prio } ∷ []
tasks_named (wakeup_new text) = record { name = text.name; pid = text.pid; prio = text.prio } ∷ []
tasks_named (migration text) = record { name = text.name; pid = text.pid; prio = text.prio } ∷ []

-- a real-time or deadline task: its prio is below 100, its pid is within range, and it isn't the idle task, whose prio
-- isn't looked at
pub record IsRealTime (task : TaskText) : Type 0 where
  pub within : value_of task.pid ≤ greatest_pid
  pub busy : value_of task.pid ≢ idle_pid
  pub low : prio_of task.prio <ℤ pos 100

-- the text behind an event's name names a real-time or deadline task by this name and this pid, and none left of it
pub record NamesRealTime (which : Which) (rest name : List ℕ) (pid : ℕ) : Type 0 where
  pub text : EventText
  pub reads : Reads which rest text
  pub before : List TaskText
  pub task : TaskText
  pub after : List TaskText
  pub tasks : tasks_named text ≡ before ++ task ∷ after
  pub first : AllByRecursion (λ other. IsRealTime other → ⊥) before
  pub real_time : IsRealTime task
  pub named : name ≡ task.name
  pub numbered : pid ≡ value_of task.pid
