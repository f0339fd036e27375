-- What a trace says as a whole (ftrace.rst: one event a line, in the order of time; that the first bad line decides
-- is this project's profile).
use Rattle.std.specs.Prelude.{◌≡◌, ℕ, ◌+◌, ◌<◌, ◌≤◌, List, [], ◌∷◌, ◌++◌, length, Option, Some, Result, Ok, Err}
use Rattle.std.specs.List.{AllPairs, AllZip, enumerate_from, filter_map}
use Rattle.cfs_model.specs.declared.act.Entry.{Entry}
use Rattle.text_parts.specs.Lines.{lines_of}
use Rattle.sched_record.specs.declared.cause.TraceCause.{TraceCause}
use Rattle.sched_record.specs.declared.cause.TraceCause.TheVariants.{TooManyLines, Line, LostEvents, Event, TimeBack}
use Rattle.sched_record.specs.Said.{LineSays}

-- No line of these is bad, and these are their events: each line, numbered from 1, says an event or nothing, the
-- events stand in the order of their lines, and from one to the next the time never falls.
pub record AreEventsOf (lines : List (List ℕ)) (events : List Entry) : Type 0 where
  pub said : List (Option Entry)
  pub each : AllZip (λ line say. LineSays line.0 line.1 (Ok say)) (enumerate_from 1 lines) said
  pub kept : events ≡ filter_map (λ say. say) said
  pub in_time : AllPairs (λ a b. a.time ≤ b.time) events

-- the line says an event that is earlier than the last of these
pub record IsTimeBack (events : List Entry) (number : ℕ) (line : List ℕ) : Type 0 where
  pub before : List Entry
  pub last : Entry
  pub event : Entry
  pub parts : events ≡ before ++ last ∷ []
  pub says : LineSays number line (Ok (Some event))
  pub falls : event.time < last.time

-- behind lines with these events the line of this number is bad, for this cause
abbrev pub IsBadAfter : List Entry → ℕ → List ℕ → TraceCause → Type 0
IsBadAfter events number line TooManyLines = LineSays number line (Err TooManyLines)
IsBadAfter events number line (Line fault) = LineSays number line (Err (Line fault))
IsBadAfter events number line LostEvents = LineSays number line (Err LostEvents)
IsBadAfter events number line (Event fault) = LineSays number line (Err (Event fault))
IsBadAfter events number line TimeBack = IsTimeBack events number line

-- the first bad line of all, with its number and its cause
pub record IsFirstBadTraceLine (lines : List (List ℕ)) (number : ℕ) (cause : TraceCause) : Type 0 where
  pub front : List (List ℕ)
  pub line : List ℕ
  pub rest : List (List ℕ)
  pub events : List Entry
  pub parts : lines ≡ front ++ line ∷ rest
  pub good : AreEventsOf front events
  pub indexed : number ≡ length front + 1
  pub bad : IsBadAfter events number line cause

-- lines mean their events, or the first bad one and why it is bad
abbrev pub LinesAnswer : List (List ℕ) → Result (List Entry) (ℕ × TraceCause) → Type 0
LinesAnswer lines (Ok events) = AreEventsOf lines events
LinesAnswer lines (Err fault) = IsFirstBadTraceLine lines fault.0 fault.1

-- a trace means what its lines mean
abbrev pub TraceAnswer : List ℕ → Result (List Entry) (ℕ × TraceCause) → Type 0
TraceAnswer text = LinesAnswer (lines_of text)
