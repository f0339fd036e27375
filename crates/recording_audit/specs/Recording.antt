-- The parts that a recording is cut into: the headline (this project's profile).
use Rattle.std.specs.Prelude.{◌≡◌, ℕ, ◌+◌, ◌<◌, ⊤, List, [], ◌∷◌, ◌++◌, length, All}
use Rattle.std.specs.List.{flat_map}
use Rattle.cfs_model.specs.Knobs.{KnobsView}
use Rattle.text_parts.specs.Lines.{lines_of}
use Rattle.recording_audit.specs.declared.part.Part.{Part}
use Rattle.recording_audit.specs.declared.cut_cause.CutCause.{CutCause}
use Rattle.recording_audit.specs.declared.not_audited.NotAudited.{NotAudited}
use Rattle.recording_audit.specs.declared.not_audited.NotAudited.TheVariants as nots
use Rattle.recording_audit.specs.Causes.{AreCaused, IsRefusedFirst}
use Rattle.recording_audit.specs.Parts.{IsLongEnough, IsTold}

-- the lines of these parts are numbered one behind the other, from a number on up to before another
abbrev pub AreNumbered : ℕ → List Part → ℕ → Type 0
AreNumbered number [] next = number ≡ next
AreNumbered number (part ∷ parts) next =
    (part.first ≡ number) × (part.last + 1 ≡ number + length (lines_of part.text.now))
    × AreNumbered (part.last + 1) parts next

-- these parts, one behind the other, are the text: so are their bytes and their lines, so that each line stands in just
-- one part; what is told of each holds, by these limits, and so does the cause of each cut; and a stretch has at least
-- so many events
pub record ArePartsOf (limits : KnobsView) (least : ℕ) (text : List ℕ) (parts : List Part) : Type 0 where
  pub bytes : text ≡ flat_map (λ part. part.text.now) parts
  pub lines : lines_of text ≡ flat_map (λ part. lines_of part.text.now) parts
  pub numbered : AreNumbered 1 parts (length (lines_of text) + 1)
  pub caused : AreCaused limits [] parts
  pub told : All (λ part. IsTold limits part.text.now part.told) parts
  pub long : All (λ part. IsLongEnough least part.told) parts

-- the text of the last of these parts, which stand behind a part with this text
abbrev pub last_text : List ℕ → List Part → List ℕ
last_text before [] = before
last_text before (part ∷ parts) = last_text part.text.now parts

-- a text is refused at the line of this number for this cause: the line stands behind these parts, and can't be read on
-- from
pub record IsRefusedAt (text : List ℕ) (line : ℕ) (cause : CutCause) : Type 0 where
  pub parts : List Part
  pub rest : List ℕ
  pub bytes : text ≡ flat_map (λ part. part.text.now) parts ++ rest
  pub lines : lines_of text ≡ flat_map (λ part. lines_of part.text.now) parts ++ lines_of rest
  pub numbered : AreNumbered 1 parts line
  pub some : 0 < length rest
  pub refused : IsRefusedFirst (last_text [] parts) rest cause

-- why a text wasn't audited to its end
abbrev pub IsNotAudited : List ℕ → NotAudited → Type 0
IsNotAudited text (nots.Refused line cause) = IsRefusedAt text line cause
IsNotAudited text nots.Memory = ⊤
