-- How a line is read from left to right: its head, the words on lost events, the event's label. Nothing here is to be
-- believed: it is proved to give the one reading that `Line` states.
use Rattle.std.specs.Prelude.{ℕ, ◌+◌, ◌*◌, ◌&&◌, ◌==◌, Bool, true, false, List, [], ◌∷◌, codes, length, drop, nat_le}
use Rattle.std.specs.Prelude.{nat_lt, Option, None, Some, Result, Ok, Err, slice_index, if◌then◌else◌}
use Rattle.std.specs.List.{prefix_len}
use Rattle.ftrace_line.specs.declared.kinds.Which.{Which}
use Rattle.ftrace_line.specs.declared.kinds.Which.TheVariants.{Switch, Wakeup, WakeupNew, MigrateTask}
use Rattle.ftrace_line.specs.declared.fault.LineFault.{LineFault}
use Rattle.ftrace_line.specs.declared.fault.LineFault.TheVariants.{BadHead, NumberRange}
use Rattle.text_parts.specs.Numerals.{is_digit}
use Rattle.ftrace_line.specs.Head.{is_group_byte, is_flag}
use Rattle.text_parts.specs.Pieces.{is_space, begins_with}
use Rattle.ftrace_line.specs.Line.{LineView, comment, lost, other, sched, label_of}
use Rattle.cfs_model.specs.Limits.{greatest_processor, greatest_seconds, nanoseconds_per_second}
use Rattle.text_parts.specs.Lines.{is_comment}
use Rattle.text_parts.specs.Reading.{◌>>=◌, or_else, after_text, after_run, front_value, time_at}

-- what follows the space, the name and the `-`
unfoldable pub after_name : List ℕ → Option (List ℕ)
after_name line =
    if nat_lt 16 (length line) && (slice_index line 0 == 32 && slice_index line 16 == 45) then Some (drop 17 line)
    else None

-- what follows a thread group in its brackets
unfoldable pub after_brackets : List ℕ → Option (List ℕ)
after_brackets text = do
  group ← after_text (codes "(") text
  bracket ← after_run is_group_byte group
  gap ← after_text (codes ")") bracket
  after_run is_space gap

-- what follows the column of thread groups, where it is there
unfoldable pub after_group : List ℕ → Option (List ℕ)
after_group text = or_else (after_brackets text) (Some text)

-- the processor, and what follows its bracket
unfoldable pub processor_at : List ℕ → Option (ℕ × List ℕ)
processor_at text = do
  digits ← after_text (codes "[") text
  rest ←
      if nat_lt (prefix_len is_digit digits) 3 then None else
      after_text (codes "]") (drop (prefix_len is_digit digits) digits)
  Some (front_value digits, rest)

-- seconds, nanoseconds, and what follows the time and its colon
unfoldable pub stamp_at : List ℕ → Option (ℕ × ℕ × List ℕ)
stamp_at text = do
  time ← time_at text
  rest ← after_text (codes ": ") time.2
  Some (time.0, time.1, rest)

-- the same behind a word of flags
unfoldable pub flagged_stamp_at : List ℕ → Option (ℕ × ℕ × List ℕ)
flagged_stamp_at text = do
  gap ← after_run is_flag text
  stamp ← after_run is_space gap
  stamp_at stamp

-- the parts of a head that are looked at, and the event's text
pub record HeadParts : Type 0 where
  pub cpu : ℕ
  pub seconds : ℕ
  pub nanoseconds : ℕ
  pub text : List ℕ

-- the head at the front of a line
unfoldable pub head_at : List ℕ → Option HeadParts
head_at line = do
  pid ← after_name line
  pid_gap ← after_run is_digit pid
  group ← after_run is_space pid_gap
  bracket ← after_group group
  processor ← processor_at bracket
  clock ← after_run is_space processor.1
  stamp ← or_else (stamp_at clock) (flagged_stamp_at clock)
  Some (record { cpu = processor.0; seconds = stamp.0; nanoseconds = stamp.1; text = stamp.2 })

-- what follows the words on a number of lost events
unfoldable pub after_count : List ℕ → Option (List ℕ)
after_count text = do
  digits ← after_text (codes " [LOST ") text
  words ← after_run is_digit digits
  after_text (codes " EVENTS]") words

-- what follows the words on lost events
unfoldable pub after_loss : List ℕ → Option (List ℕ)
after_loss line = do
  processor ← after_text (codes "CPU:") line
  loss ← after_run is_digit processor
  or_else (after_text (codes " [LOST EVENTS]") loss) (after_count loss)

-- which of the four events a text is
unfoldable pub kind_at : List ℕ → Option Which
kind_at text =
    if begins_with (label_of Switch) text then Some Switch else
    (if begins_with (label_of Wakeup) text then Some Wakeup else
    (if begins_with (label_of WakeupNew) text then Some WakeupNew else
    (if begins_with (label_of MigrateTask) text then Some MigrateTask else None)))

-- the same by what stands behind the front that all four have
abbrev pub kind_by_name : List ℕ → Option Which
kind_by_name text =
    if begins_with (codes "switch: ") text then Some Switch else
    (if begins_with (codes "wakeup: ") text then Some Wakeup else
    (if begins_with (codes "wakeup_new: ") text then Some WakeupNew else
    (if begins_with (codes "migrate_task: ") text then Some MigrateTask else None)))

-- what stands behind the label
abbrev pub fields_of : Which → List ℕ → List ℕ
fields_of which text = drop (length (label_of which)) text

-- the meaning of a line of this kind
abbrev pub event_meaning : HeadParts → Option Which → LineView
event_meaning head None = other
event_meaning head (Some which) = sched head.cpu (head.seconds * nanoseconds_per_second + head.nanoseconds) which
    (fields_of which head.text)

-- the meaning of a line with this head, if it has one
abbrev pub head_meaning : Option HeadParts → Result LineView LineFault
head_meaning None = Err BadHead
head_meaning (Some head) =
    if nat_le head.cpu greatest_processor && nat_le head.seconds greatest_seconds
    then Ok (event_meaning head (kind_at head.text)) else Err NumberRange

-- nothing is left
abbrev pub is_end : Option (List ℕ) → Bool
is_end None = false
is_end (Some []) = true
is_end (Some (byte ∷ text)) = false

-- the meaning of a line: the first byte says which kind of line it is
unfoldable pub meaning_of : List ℕ → Result LineView LineFault
meaning_of line =
    if is_comment line then Ok comment else
    (if is_end (after_loss line) then Ok lost else head_meaning (head_at line))
