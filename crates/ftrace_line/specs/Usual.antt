-- The front of a text that goes on behind its first line, where that line is an event's: what is told of it, whatever
-- stands behind the front (ftrace.rst; that such a front is told at once is this project's profile).
use Rattle.std.specs.Prelude.{◌≡◌, ℕ, ◌<◌, List, ◌∷◌, ◌++◌, length, Option, Some}
use Rattle.std.specs.Prelude.{None, Ok}
use Rattle.std.specs.List.{before_first}
use Rattle.ftrace_line.specs.declared.kinds.Which.{Which}
use Rattle.text_parts.specs.Lines.{is_line_feed}
use Rattle.text_parts.specs.Numerals.{IsNumeral}
use Rattle.text_parts.specs.Pieces.{IsGap}
use Rattle.text_parts.specs.Unbroken.{IsUnbroken}
use Rattle.ftrace_line.specs.Line.{IsEventLine, LineAnswer, other, sched}

-- the columns of a name and the `-` behind them stand at the front of a text
pub record HasName (text rest : List ℕ) : Type 0 where
  pub name : List ℕ
  pub width : length name ≡ 15
  pub unbroken : IsUnbroken name
  pub parts : text ≡ 32 ∷ (name ++ (45 ∷ rest))

-- the digits of a pid and the spaces behind them stand at the front of a text
pub record HasPid (text rest : List ℕ) : Type 0 where
  pub digits : List ℕ
  pub form : IsNumeral digits
  pub gap : List ℕ
  pub gap_form : IsGap gap
  pub parts : text ≡ digits ++ (gap ++ rest)

-- an event's head stands at the front of a text
pub record HasHead (text : List ℕ) (cpu time : ℕ) (rest : List ℕ) : Type 0 where
  pub front : List ℕ
  pub some : 0 < length front
  pub unbroken : IsUnbroken front
  pub parts : text ≡ front ++ rest
  pub event : (more : List ℕ) → IsEventLine (front ++ more) cpu time more

-- what a line says that begins with this front: one of the four events, whatever its fields are, or another event
abbrev pub SaysKind : List ℕ → ℕ → ℕ → Option Which → List ℕ → Type 0
SaysKind front cpu time None rest = LineAnswer (front ++ before_first is_line_feed rest) (Ok other)
SaysKind front cpu time (Some which) rest = (fields : List ℕ)
    → LineAnswer (front ++ fields) (Ok (sched cpu time which fields))

-- an event's head, and the label of one of the four or of none, stand at the front of a text
pub record HasFront (text : List ℕ) (cpu time : ℕ) (which : Option Which) (rest : List ℕ) : Type 0 where
  pub front : List ℕ
  pub some : 0 < length front
  pub unbroken : IsUnbroken front
  pub parts : text ≡ front ++ rest
  pub says : SaysKind front cpu time which rest
