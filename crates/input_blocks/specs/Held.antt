-- Readers of lines, and what is held of a line whose end hasn't come yet (this project's profile). Of a reader a
-- relation says whether one comes from another by reading some lines.
use Rattle.std.specs.Prelude.{◌≡◌, ℕ, ◌<◌, Bool, true, false, List, [], ◌∷◌, ◌++◌, length}
use Rattle.std.specs.List.{list_any}
use Rattle.text_parts.specs.Lines.{is_line_feed, lines_of, IsWhole}
use Rattle.input_blocks.specs.declared.begun_line.BegunLine.{BegunLine}

-- whatever comes behind this beginning of a line, what is read of it is read of the line
pub record Settles {R : Type 0} (reads : R → R → List (List ℕ) → Type 0) (front : List ℕ) : Type 0 where
  pub some : 0 < length front
  pub same : (old new : R) (more : List ℕ) → reads old new (front ∷ []) → reads old new ((front ++ more) ∷ [])

-- the bytes that are held of a line are all of it, or settle what is read of it
abbrev pub AreEnough : {R : Type 0} → (R → R → List (List ℕ) → Type 0) → Bool → List ℕ → List ℕ → Type 0
AreEnough reads true front more = Settles reads front
AreEnough reads false front more = more ≡ []

-- of this line, whose end hasn't come yet, enough is held
pub record IsHeld {R : Type 0} (reads : R → R → List (List ℕ) → Type 0) (begun : BegunLine) (line : List ℕ) : Type 0
  where
    pub more : List ℕ
    pub parts : line ≡ begun.bytes.items ++ more
    pub one : list_any is_line_feed line ≡ false
    pub enough : AreEnough reads begun.settled begun.bytes.items more

-- of these bytes the reader has read whole lines, and the others are left
pub record PassesWhole {R : Type 0} (reads : R → R → List (List ℕ) → Type 0) (old new : R)
    (bytes left : List ℕ) : Type 0
  where
    pub whole : List ℕ
    pub parts : bytes ≡ whole ++ left
    pub ends : IsWhole whole
    pub read : reads old new (lines_of whole)

-- of this text the reader has read whole lines, and enough is held of the line behind them
pub record PassesOn {R : Type 0} (reads : R → R → List (List ℕ) → Type 0) (old new : R) (text : List ℕ)
    (begun : BegunLine) : Type 0
  where
    pub line : List ℕ
    pub is_held : IsHeld reads begun line
    pub passes : PassesWhole reads old new text line
