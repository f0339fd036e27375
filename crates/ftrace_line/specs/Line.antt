-- Lines of a trace in ftrace's plain format (ftrace.rst, and the print formats of the scheduler's trace events): a
-- comment, a count of lost events, or an event behind its head.
use Rattle.std.specs.Prelude.{◌≡◌, ℕ, ◌+◌, ◌*◌, ◌<◌, ◌≤◌, ◌⊎◌, List, [], ◌∷◌, ◌++◌, codes, Result, Ok, Err}
use Rattle.ftrace_line.specs.declared.kinds.Which.{Which}
use Rattle.ftrace_line.specs.declared.kinds.Which.TheVariants.{Switch, Wakeup, WakeupNew, MigrateTask}
use Rattle.ftrace_line.specs.declared.fault.LineFault.{LineFault}
use Rattle.ftrace_line.specs.declared.fault.LineFault.TheVariants.{BadHead, NumberRange}
use Rattle.text_parts.specs.Numerals.{IsNumeral}
use Rattle.text_parts.specs.Pieces.{joined}
use Rattle.text_parts.specs.Lines.{IsComment}
use Rattle.cfs_model.specs.Limits.{greatest_processor, greatest_seconds, nanoseconds_per_second}
use Rattle.ftrace_line.specs.Head.{IsHead}

-- what a line means: an event of the scheduler has its head's processor, its time in nanoseconds, its kind, and the
-- text of its fields
pub data LineView : Type 0 where
  comment : LineView
  lost : LineView
  other : LineView
  sched : (cpu time : ℕ) (which : Which) (rest : List ℕ) → LineView

-- what is said of lost events: their number, or only that there were some
abbrev pub IsLoss : List ℕ → Type 0
IsLoss text =
    (text ≡ codes " [LOST EVENTS]")
    ⊎ ((number : List ℕ) × IsNumeral number × (text ≡ joined (codes " [LOST " ∷ number ∷ codes " EVENTS]" ∷ [])))

-- a processor's line of lost events
pub record IsLost (line : List ℕ) : Type 0 where
  pub processor : List ℕ
  pub processor_form : IsNumeral processor
  pub loss : List ℕ
  pub loss_form : IsLoss loss
  pub whole : line ≡ joined (codes "CPU:" ∷ processor ∷ loss ∷ [])

-- what the text of each of the four events begins with
abbrev pub label_of : Which → List ℕ
label_of Switch = codes "sched_switch: "
label_of Wakeup = codes "sched_wakeup: "
label_of WakeupNew = codes "sched_wakeup_new: "
label_of MigrateTask = codes "sched_migrate_task: "

-- an event's head in range: its line is the head and then this text, and its time is in nanoseconds
pub record IsEventLine (line : List ℕ) (cpu time : ℕ) (text : List ℕ) : Type 0 where
  pub seconds : ℕ
  pub nanoseconds : ℕ
  pub head : IsHead line cpu seconds nanoseconds text
  pub cpu_in_range : cpu ≤ greatest_processor
  pub seconds_in_range : seconds ≤ greatest_seconds
  pub time_is : time ≡ seconds * nanoseconds_per_second + nanoseconds

-- one of the four events
pub record IsSched (line : List ℕ) (cpu time : ℕ) (which : Which) (rest : List ℕ) : Type 0 where
  pub text : List ℕ
  pub event : IsEventLine line cpu time text
  pub labelled : text ≡ label_of which ++ rest

-- any other event
pub record IsOther (line : List ℕ) : Type 0 where
  pub cpu : ℕ
  pub time : ℕ
  pub text : List ℕ
  pub event : IsEventLine line cpu time text
  pub unlabelled : (which : Which) (rest : List ℕ) → text ≡ label_of which ++ rest → ⊥

-- an event whose head has a processor or seconds out of range
pub record IsHeadOutOfRange (line : List ℕ) : Type 0 where
  pub cpu : ℕ
  pub seconds : ℕ
  pub nanoseconds : ℕ
  pub text : List ℕ
  pub head : IsHead line cpu seconds nanoseconds text
  pub beyond : (greatest_processor < cpu) ⊎ (greatest_seconds < seconds)

-- no comment, no line of lost events, and no event behind its head
pub record IsHeadless (line : List ℕ) : Type 0 where
  pub no_comment : IsComment line → ⊥
  pub no_loss : IsLost line → ⊥
  pub no_head : (cpu seconds nanoseconds : ℕ) (text : List ℕ) → IsHead line cpu seconds nanoseconds text → ⊥

-- what a line means, or why it can't be read
abbrev pub LineAnswer : List ℕ → Result LineView LineFault → Type 0
LineAnswer line (Ok comment) = IsComment line
LineAnswer line (Ok lost) = IsLost line
LineAnswer line (Ok other) = IsOther line
LineAnswer line (Ok (sched cpu time which rest)) = IsSched line cpu time which rest
LineAnswer line (Err BadHead) = IsHeadless line
LineAnswer line (Err NumberRange) = IsHeadOutOfRange line
