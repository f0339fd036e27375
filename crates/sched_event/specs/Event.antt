-- What an event's text means, and why it is refused (the print formats of the scheduler's trace events; the ranges and
-- the prios of fair tasks are this project's profile).
use Rattle.std.specs.Prelude.{◌≡◌, ℕ, ◌==◌, if◌then◌else◌, IsTrue, IsFalse, ℤ, pos, ◌-ℤ◌, ◌<ℤ◌, List, Result, Ok, Err}
use Rattle.std.specs.List.{AllByRecursion}
use Rattle.ftrace_line.specs.declared.kinds.Which.{Which}
use Rattle.cfs_model.specs.Limits.{idle_pid}
use Rattle.text_parts.specs.Numerals.{value_of}
use Rattle.sched_event.specs.declared.fault.EventFault.{EventFault}
use Rattle.sched_event.specs.declared.fault.EventFault.TheVariants.{BadFields, NumberRange, RealTime, PrioRange}
use Rattle.sched_event.specs.declared.fault.EventFault.TheVariants.{IdleNamed}
use Rattle.sched_event.specs.Texts.{Prio, EventText, switch, wakeup, wakeup_new, migration, WakeupText, Reads}
use Rattle.sched_event.specs.Ranges.{prio_of, is_out_of_range, prios_of, IsFair, Leftmost, names_idle}
pub use Rattle.sched_event.specs.EventView.{SwitchView, WakeupView, MigrationView, EventView, switched, woken, born}
pub use Rattle.sched_event.specs.EventView.{migrated}
pub use Rattle.sched_event.specs.Act.{act_of}

-- the nice value that a prio stands for; the idle task's is 0, whatever is printed
abbrev pub nice_of : List ℕ → Prio → ℤ
nice_of pid prio = if value_of pid == idle_pid then pos 0 else prio_of prio -ℤ pos 120

-- a wakeup's parts as names and numbers
abbrev pub wakeup_of : WakeupText → WakeupView
wakeup_of text = record {
  name = text.name;
  pid = value_of text.pid;
  nice = nice_of text.pid text.prio;
  target = value_of text.target;
}

-- what a text's parts say, on a line whose head has this processor
abbrev pub event_of : ℕ → EventText → EventView
event_of cpu (switch text) = switched (record {
  cpu = cpu;
  prev_name = text.prev_name;
  prev = value_of text.prev;
  prev_nice = nice_of text.prev text.prev_prio;
  prev_state = text.prev_state;
  next_name = text.next_name;
  next = value_of text.next;
  next_nice = nice_of text.next text.next_prio;
})
event_of cpu (wakeup text) = woken (wakeup_of text)
event_of cpu (wakeup_new text) = born (wakeup_of text)
event_of cpu (migration text) = migrated (record {
  name = text.name;
  pid = value_of text.pid;
  nice = nice_of text.pid text.prio;
  orig = value_of text.orig;
  dest = value_of text.dest;
})

-- no parts make up the text
abbrev pub HasNoReading : Which → List ℕ → Type 0
HasNoReading which rest = (text : EventText) → Reads which rest text → ⊥

-- the text can be read, and a pid or a processor in it is out of its range
abbrev pub HasNumberOutOfRange : Which → List ℕ → Type 0
HasNumberOutOfRange which rest = (text : EventText) × Reads which rest text × IsTrue (is_out_of_range text)

-- the text can be read with its numbers in range, and the leftmost prio that is looked at and isn't a fair task's has
-- the property P
abbrev pub HasUnfairPrio : (ℤ → Type 0) → Which → List ℕ → Type 0
HasUnfairPrio P which rest = (text : EventText) × Reads which rest text × IsFalse (is_out_of_range text)
    × Leftmost P (prios_of text)

-- that prio is below 100: a real-time or deadline task
abbrev pub HasRealTimePrio : Which → List ℕ → Type 0
HasRealTimePrio which rest = HasUnfairPrio (λ prio. prio <ℤ pos 100) which rest

-- that prio is above 139
abbrev pub HasPrioAboveRange : Which → List ℕ → Type 0
HasPrioAboveRange which rest = HasUnfairPrio (λ prio. pos 139 <ℤ prio) which rest

-- the text can be read with its numbers in range, and the idle task is woken, born or migrated
abbrev pub NamesIdle : Which → List ℕ → Type 0
NamesIdle which rest = (text : EventText) × Reads which rest text × IsFalse (is_out_of_range text)
    × IsTrue (names_idle text)

-- the text can be read as this event, with every number in its range
abbrev pub IsEvent : ℕ → Which → List ℕ → EventView → Type 0
IsEvent cpu which rest event = (text : EventText) × Reads which rest text × IsFalse (is_out_of_range text)
    × AllByRecursion IsFair (prios_of text)
    × IsFalse (names_idle text) × (event ≡ event_of cpu text)

-- what a text means, on a line whose head has this processor: an event, or the first cause to refuse it
abbrev pub EventAnswer : ℕ → Which → List ℕ → Result EventView EventFault → Type 0
EventAnswer cpu which rest (Ok event) = IsEvent cpu which rest event
EventAnswer cpu which rest (Err BadFields) = HasNoReading which rest
EventAnswer cpu which rest (Err NumberRange) = HasNumberOutOfRange which rest
EventAnswer cpu which rest (Err RealTime) = HasRealTimePrio which rest
EventAnswer cpu which rest (Err PrioRange) = HasPrioAboveRange which rest
EventAnswer cpu which rest (Err IdleNamed) = NamesIdle which rest
