-- A piece of a recording.
use Rattle.std.specs.Prelude.{ℕ, ◌+◌, ⊤, List, ◌++◌, length}
use Rattle.cfs_model.specs.Knobs.{KnobsView}
use Rattle.recording_audit.specs.declared.breach.Breach.{Breach}
use Rattle.recording_audit.specs.declared.piece.Piece.{Piece}
use Rattle.text_parts.specs.Lines.{lines_of}
use Rattle.recording_audit.specs.declared.not_audited.NotAudited.{NotAudited}
use Rattle.recording_audit.specs.declared.not_audited.NotAudited.TheVariants as nots
use Rattle.recording_audit.specs.Causes.{IsCaused, IsKnown, IsRefusedFirst}
use Rattle.recording_audit.specs.Parts.{IsTold, IsUnmeasured}
use Rattle.recording_audit.specs.Splits.{AreSplit}

-- the front of a text, of which what is told holds, and what follows, of whose first line it may be known why it stands
-- in no stretch
abbrev pub IsPieceOf : KnobsView → List ℕ → Piece → Type 0
IsPieceOf limits text piece =
    AreSplit text piece.text.now piece.rest.now × IsTold limits piece.text.now piece.told
    × IsKnown (piece.text.now ++ piece.rest.now) (length (lines_of piece.text.now) + 1) piece.next

-- of the line that a stretch has to end before it is known why, where that is told
abbrev pub IsKnownBreach : List ℕ → Breach → Type 0
IsKnownBreach text breach = IsKnown text breach.line breach.cause

-- the cause of a piece, if it is a cut, behind a part with this text
abbrev pub IsCausedPiece : KnobsView → List ℕ → Piece → Type 0
IsCausedPiece limits before piece = IsCaused limits before piece.text.now piece.told

-- its events haven't been compared with how many a stretch has to have
abbrev pub IsUnmeasuredPiece : Piece → Type 0
IsUnmeasuredPiece piece = IsUnmeasured piece.told

-- why there is no piece of a text behind a part with that text: its first line can't be read on from, for this cause
abbrev pub IsNoPiece : List ℕ → List ℕ → NotAudited → Type 0
IsNoPiece before text (nots.Refused line cause) = IsRefusedFirst before text cause
IsNoPiece before text nots.Memory = ⊤

-- the same, with the number of the line
abbrev pub numbered_at : ℕ → NotAudited → NotAudited
numbered_at number (nots.Refused line cause) = nots.Refused number cause
numbered_at number nots.Memory = nots.Memory
