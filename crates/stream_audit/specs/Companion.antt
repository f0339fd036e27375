-- A recording's companion that is read a block at a time: what it said so far, and whether more can be said (this
-- project's profile).
use Rattle.std.specs.Prelude.{◌≡◌, ◌⊎◌, ℕ, Bool, true, false, not, List, Option, IsNone}
use Rattle.std.specs.Io.KnownBytes.{IsAtEnd}
use Rattle.companion_file.specs.Earlier.{Said}
use Rattle.companion_file.specs.Reader.{AreCountable, GoesOn, HasReadCompanion, reaches_past}
use Rattle.input_blocks.specs.Blocks.{IsThen}
use Rattle.input_blocks.specs.OfCompanion.{ReadsCompanion}
use Rattle.text_parts.specs.Lines.{lines_of}
use Rattle.stream_audit.specs.declared.companion_input.CompanionInput.{CompanionInput}

-- all reads of the input were made here, none failed, and it has ended where it doesn't go on
pub record IsFedBy (calls : ℕ) (has_ended has_failed : Bool) (input : CompanionInput) : Type 0 where
  pub counted : calls ≡ input.blocks.source.reads
  pub ended : has_ended ≡ not input.goes_on
  pub heard : has_failed ≡ false

-- of an input that gave bytes before it had these left, this was said so far, and what stands up to a line may be gone
pub record IsCompanionAt (gave left : Option (List ℕ)) (input : CompanionInput) (said : Said) (edge : ℕ) : Type 0 where
  pub done : List ℕ
  pub read : HasReadCompanion input.reader (lines_of done) said edge
  pub few : AreCountable (lines_of done)
  pub stands : IsThen ReadsCompanion gave left input.blocks done input.goes_on
  -- nothing is left of one that was read to its end
  pub at_end : input.goes_on ≡ false → IsAtEnd left

-- the same of an input that was read on: more was said
pub record SaysOn (gave left : Option (List ℕ)) (old new : CompanionInput) (said : Said) (edge : ℕ) : Type 0 where
  pub after : Said
  pub at : IsCompanionAt gave left new after edge
  pub more : GoesOn said after
  -- of an input that has ended nothing more is read
  pub ended : old.goes_on ≡ false → (new.goes_on ≡ false) × (after ≡ said)
  -- and a bad line stays
  pub good : IsNone new.reader.bad → IsNone old.reader.bad

-- nothing more can be said of lines of the trace up to this one
abbrev pub GoesPast : ℕ → Said → CompanionInput → Type 0
GoesPast line said input = (input.goes_on ≡ false) ⊎ (reaches_past said line ≡ true)

-- the same, where no line is bad
abbrev pub IsPast : ℕ → Said → CompanionInput → Type 0
IsPast line said input = IsNone input.reader.bad → GoesPast line said input
