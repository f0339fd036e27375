-- What is told of the first line of a text, where it has the usual form (ftrace.rst, and the print formats of the
-- scheduler's trace events; which lines are told of so is this project's profile, and no clause says it).
use Rattle.std.specs.Prelude.{◌≡◌, ℕ, ◌<◌, Bool, false, true, nat_lt, List, [], ◌∷◌, ◌++◌, length}
use Rattle.std.specs.Prelude.{Option, MatchOption, Ok}
use Rattle.std.specs.List.{before_first, after_first}
use Rattle.cfs_model.specs.declared.act.Act.{Act}
use Rattle.ftrace_line.specs.declared.kinds.Which.{Which}
use Rattle.ftrace_line.specs.Line.{LineAnswer, other, sched}
use Rattle.text_parts.specs.Lines.{is_line_feed, lines_of}
use Rattle.text_parts.specs.Numerals.{is_digit}
use Rattle.text_parts.specs.Unbroken.{IsUnbroken}
use Rattle.sched_event.specs.Event.{EventView, EventAnswer, act_of}
use Rattle.sched_event.specs.Texts.{EventText, Reads}
use Rattle.sched_event.specs.declared.usual.UsualEvent.{UsualEvent}

-- a byte that is printed, and no space
abbrev pub is_plain : ℕ → Bool
is_plain byte = nat_lt 32 byte

-- a field stands behind a key at the front of a text, and no line ends in it
pub record HasField (key text field rest : List ℕ) : Type 0 where
  pub unbroken : IsUnbroken field
  pub parts : text ≡ key ++ (field ++ rest)

-- the prio of nice 0 behind a key, and behind it what begins with no digit
pub record IsMiddlePrio (key text : List ℕ) : Type 0 where
  pub end : ℕ
  pub more : List ℕ
  pub no_digit : is_digit end ≡ false
  pub parts : text ≡ key ++ (49 ∷ 50 ∷ 48 ∷ end ∷ more)

-- an event's fields stand at the front of a text, and no line ends in them
pub record HasFields (which : Which) (text : List ℕ) (read : EventText) (rest : List ℕ) : Type 0 where
  pub front : List ℕ
  pub unbroken : IsUnbroken front
  pub parts : text ≡ front ++ rest
  pub reads : Reads which front read

-- the first line of a text has the fields of an event that does this, and the rest follows that line
pub record HasAct (cpu : ℕ) (which : Which) (text : List ℕ) (act : Act) (rest : List ℕ) : Type 0 where
  pub event : EventView
  pub answer : EventAnswer cpu which (before_first is_line_feed text) (Ok event)
  pub act_is : act ≡ act_of event
  pub rest_is : rest ≡ after_first is_line_feed text

-- the line says that this happens at this time
pub record SaysAct (line : List ℕ) (said : UsualEvent) : Type 0 where
  pub cpu : ℕ
  pub which : Which
  pub fields : List ℕ
  pub event : EventView
  pub head : LineAnswer line (Ok (sched cpu said.time which fields))
  pub answer : EventAnswer cpu which fields (Ok event)
  pub act_is : said.act ≡ act_of event

-- The first line of a text says this, one of the four events or another event, and the rest follows that line.
pub record IsUsual (text : List ℕ) (said : Option UsualEvent) (rest : List ℕ) : Type 0 where
  pub says : MatchOption said (LineAnswer (before_first is_line_feed text) (Ok other))
      (SaysAct (before_first is_line_feed text))
  pub lines : lines_of text ≡ before_first is_line_feed text ∷ lines_of rest
  pub shorter : length rest < length text
