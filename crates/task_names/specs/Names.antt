-- What a line of a trace calls a task, where it is the line of an event of a record: in the event's own text, or in the
-- line's head, which names the task that ran when the line was written (ftrace.rst: sixteen columns of its name, a `-`
-- and its pid).
use Rattle.std.specs.Prelude.{◌≡◌, ℕ, ◌⊎◌, List, [], ◌∷◌, ◌++◌, drop, take}
use Rattle.std.specs.List.{prefix_len, take_while}
use Rattle.cfs_model.specs.declared.act.Entry.{Entry}
use Rattle.ftrace_line.specs.Line.{IsSched}
use Rattle.ftrace_line.specs.declared.kinds.Which.{Which}
use Rattle.sched_event.specs.Act.{act_of}
use Rattle.sched_event.specs.Event.{IsEvent}
use Rattle.sched_event.specs.EventView.{EventView, switched, woken, born, migrated}
use Rattle.text_parts.specs.Numerals.{is_digit, value_of}
use Rattle.text_parts.specs.Pieces.{is_space}

-- the line says the record's event, as this one
pub record SaysEvent (line : List ℕ) (entry : Entry) (event : EventView) : Type 0 where
  pub cpu : ℕ
  pub which : Which
  pub rest : List ℕ
  pub sched : IsSched line cpu entry.time which rest
  pub reads : IsEvent cpu which rest event
  pub does : act_of event ≡ entry.act

-- the event's text calls the task so; of a switch's two the previous one first
abbrev pub CallsInText : EventView → ℕ → List ℕ → Type 0
CallsInText (switched s) pid name = ((pid ≡ s.prev) × (name ≡ s.prev_name)) ⊎ ((pid ≡ s.next) × (name ≡ s.next_name))
CallsInText (woken w) pid name = (pid ≡ w.pid) × (name ≡ w.name)
CallsInText (born w) pid name = (pid ≡ w.pid) × (name ≡ w.name)
CallsInText (migrated m) pid name = (pid ≡ m.pid) × (name ≡ m.name)

-- a name without the spaces before it
abbrev pub without_spaces : List ℕ → List ℕ
without_spaces name = drop (prefix_len is_space name) name

-- the line's head calls the task so
abbrev pub CallsInHead : List ℕ → ℕ → List ℕ → Type 0
CallsInHead line pid name =
    (pid ≡ value_of (take_while is_digit (drop 17 line))) × (name ≡ without_spaces (take 15 (drop 1 line)))

-- the line of a record's event calls the task so
abbrev pub CallsTask : List ℕ → Entry → ℕ → List ℕ → Type 0
CallsTask line entry pid name =
    (event : EventView) × SaysEvent line entry event × (CallsInText event pid name ⊎ CallsInHead line pid name)
