-- The beginning of a line, while what follows it up to the line feed isn't there yet: what it settles, and of which
-- beginnings that is told (this project's profile).
use Rattle.std.specs.Prelude.{◌≡◌, ℕ, ◌<◌, ◌⊎◌, List, [], ◌∷◌, ◌++◌, codes, length, Result}
use Rattle.text_parts.specs.Lines.{IsComment}
use Rattle.text_parts.specs.Pieces.{joined}
use Rattle.ftrace_line.specs.declared.fault.LineFault.{LineFault}
use Rattle.ftrace_line.specs.Line.{LineView, LineAnswer}

-- the line means what it means, or is bad for the cause that it is bad for, whatever follows it
pub record IsSettled (line : List ℕ) : Type 0 where
  pub some : 0 < length line
  pub same : (answer : Result LineView LineFault) (more : List ℕ) → LineAnswer line answer
      → LineAnswer (line ++ more) answer

-- seventeen bytes or more that have not the shape of an event's line, a space, a name of fifteen bytes and a `-`, nor
-- that of a notice of lost events
pub record IsShapeless (line : List ℕ) : Type 0 where
  pub long : 16 < length line
  pub no_event : (name rest : List ℕ) → length name ≡ 15 → line ≡ joined (codes " " ∷ name ∷ codes "-" ∷ rest ∷ []) → ⊥
  pub no_loss : (rest : List ℕ) → line ≡ codes "CPU:" ++ rest → ⊥

-- a comment that isn't empty, or a line of neither shape: of these alone it is told that they are settled
abbrev pub IsTold : List ℕ → Type 0
IsTold line = ((0 < length line) × IsComment line) ⊎ IsShapeless line
