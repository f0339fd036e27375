-- What one line of a trace says, by itself (ftrace.rst: the lines of the tracefs file `trace`; which of them end a
-- reading, and in which order its causes are tested, is this project's profile).
use Rattle.std.specs.Prelude.{◌≡◌, ℕ, ◌<◌, ◌≤◌, List, ◌⊎◌, Option, Some, None, Result, Ok, Err}
use Rattle.cfs_model.specs.Limits.{greatest_line}
use Rattle.cfs_model.specs.declared.act.Entry.{Entry}
use Rattle.ftrace_line.specs.declared.kinds.Which.{Which}
use Rattle.ftrace_line.specs.Line.{LineAnswer, comment, lost, other, sched}
use Rattle.sched_event.specs.declared.fault.EventFault.{EventFault}
use Rattle.sched_event.specs.Event.{EventAnswer, EventView, act_of}
use Rattle.sched_record.specs.declared.cause.TraceCause.{TraceCause}
use Rattle.sched_record.specs.declared.cause.TraceCause.TheVariants.{TooManyLines, Line, LostEvents, Event, TimeBack}

-- the line is the head of one of the four events, and the text after it reads as this entry's event
pub record SaysEvent (number : ℕ) (line : List ℕ) (entry : Entry) : Type 0 where
  pub cpu : ℕ
  pub which : Which
  pub rest : List ℕ
  pub event : EventView
  pub head : LineAnswer line (Ok (sched cpu entry.time which rest))
  pub text : EventAnswer cpu which rest (Ok event)
  pub act : entry.act ≡ act_of event
  pub indexed : entry.line ≡ number

-- the line is the head of one of the four events, and the text after it is refused so
pub record RefusesEvent (line : List ℕ) (fault : EventFault) : Type 0 where
  pub cpu : ℕ
  pub time : ℕ
  pub which : Which
  pub rest : List ℕ
  pub head : LineAnswer line (Ok (sched cpu time which rest))
  pub text : EventAnswer cpu which rest (Err fault)

-- what the line of this number says: an event, nothing that is kept, or why it is bad
abbrev pub LineSays : ℕ → List ℕ → Result (Option Entry) TraceCause → Type 0
LineSays number line (Ok (Some entry)) = (number ≤ greatest_line) × SaysEvent number line entry
LineSays number line (Ok None) = (number ≤ greatest_line) × (LineAnswer line (Ok comment) ⊎ LineAnswer line (Ok other))
LineSays number line (Err TooManyLines) = greatest_line < number
LineSays number line (Err (Line fault)) = (number ≤ greatest_line) × LineAnswer line (Err fault)
LineSays number line (Err LostEvents) = (number ≤ greatest_line) × LineAnswer line (Ok lost)
LineSays number line (Err (Event fault)) = (number ≤ greatest_line) × RefusesEvent line fault
LineSays number line (Err TimeBack) = ⊥
