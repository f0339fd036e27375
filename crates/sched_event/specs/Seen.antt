-- What is seen of an event in memory, and of what a reader answers: slices are the bytes that they point to.
use Rattle.std.specs.Prelude.{Result, Ok, Err}
use Rattle.sched_event.specs.declared.event.Event.{Event}
use Rattle.sched_event.specs.declared.event.Event.TheVariants as events
use Rattle.sched_event.specs.declared.event.Switch.{Switch}
use Rattle.sched_event.specs.declared.event.Wakeup.{Wakeup}
use Rattle.sched_event.specs.declared.event.Migration.{Migration}
use Rattle.sched_event.specs.declared.fault.EventFault.{EventFault}
use Rattle.sched_event.specs.EventView.{SwitchView, WakeupView, MigrationView, EventView, switched, woken, born}
use Rattle.sched_event.specs.EventView.{migrated}

-- what is seen of a switch in memory: its names and its state are the bytes that they point to
abbrev pub switch_view : Switch → SwitchView
switch_view s = record {
  cpu = s.cpu;
  prev_name = s.prev_name.now;
  prev = s.prev;
  prev_nice = s.prev_nice;
  prev_state = s.prev_state.now;
  next_name = s.next_name.now;
  next = s.next;
  next_nice = s.next_nice;
}

-- what is seen of a wakeup
abbrev pub wakeup_view : Wakeup → WakeupView
wakeup_view w = record { name = w.name.now; pid = w.pid; nice = w.nice; target = w.target }

-- what is seen of a migration
abbrev pub migration_view : Migration → MigrationView
migration_view m = record { name = m.name.now; pid = m.pid; nice = m.nice; orig = m.orig; dest = m.dest }

-- what is seen of an event
abbrev pub event_view : Event → EventView
event_view (events.Switch s) = switched (switch_view s)
event_view (events.Wakeup w) = woken (wakeup_view w)
event_view (events.WakeupNew w) = born (wakeup_view w)
event_view (events.Migration m) = migrated (migration_view m)

-- what is seen of the answer for a text
abbrev pub event_answer_view : Result Event EventFault → Result EventView EventFault
event_answer_view (Ok event) = Ok (event_view event)
event_answer_view (Err fault) = Err fault
