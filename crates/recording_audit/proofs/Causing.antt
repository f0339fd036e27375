-- One more cut behind parts, and what is known of the line behind them.
use Rattle.std.proofs.Common.{◌≡◌, ℕ, ◌+◌, List, [], ◌∷◌, ◌++◌, length, Some, refl, subst, sym}
use Rattle.cfs_model.specs.Knobs.{KnobsView}
use Rattle.text_parts.specs.Lines.{lines_of}
use Rattle.text_parts.proofs.TextLines.{lines_of_nil}
use Rattle.recording_audit.specs.declared.cut_cause.CutCause.{CutCause}
use Rattle.recording_audit.specs.declared.cut_cause.CutCause.TheVariants as causes
use Rattle.recording_audit.specs.declared.part.Part.{Part}
use Rattle.recording_audit.specs.Causes.{AreCaused, HaveEvents, IsCaused, IsCounted, IsKnown}
use Rattle.recording_audit.specs.Parts.{IsBadFor}
use Rattle.recording_audit.specs.Recording.{last_text}
use Rattle.recording_audit.specs.Splits.{AreSplit}

-- of one more part
pub last_more : (before : List ℕ) (parts : List Part) (part : Part)
    → last_text before (parts ++ part ∷ []) ≡ part.text.now
last_more before [] part = refl
last_more before (one ∷ parts) part = last_more one.text.now parts part

-- its cause is so, as theirs are
pub caused_more : (limits : KnobsView) (before : List ℕ) (parts : List Part) (part : Part)
    → AreCaused limits before parts → IsCaused limits (last_text before parts) part.text.now part.told
    → AreCaused limits before (parts ++ part ∷ [])
caused_more limits before [] part so_far is = (is, tt)
caused_more limits before (one ∷ parts) part so_far is =
    (so_far.0, caused_more limits one.text.now parts part so_far.1 is)

-- the events of any cut are counted so
pub counted_any : (text : List ℕ) (events : ℕ) (cause : CutCause) → HaveEvents (lines_of text) events
    → IsCounted text events cause
counted_any text events (causes.Refused cause) have = have
counted_any text events causes.BufferStarted have = have
counted_any text events (causes.Fault fault) have = have
counted_any text events causes.CpuOutside have = have
counted_any text events causes.Short have = tt
counted_any text events causes.Unsettled have = have

-- what is known of a line in the front of a text is known of it in the text
pub known_of_bad : (text front rest : List ℕ) (line : ℕ) (why : CutCause) → AreSplit text front rest
    → IsBadFor front line why → IsKnown text line (Some why)
known_of_bad text front rest line (causes.Refused cause) split bad = record {
  tried = front;
  more = rest;
  front = split.bytes;
  found = bad;
}
known_of_bad text front rest line causes.BufferStarted split bad = tt
known_of_bad text front rest line (causes.Fault fault) split bad = record {
  tried = front;
  more = rest;
  front = split.bytes;
  companion = bad.0;
  found = bad.1;
  placed = bad.2;
}
known_of_bad text front rest line causes.CpuOutside split bad = record {
  tried = front;
  more = rest;
  front = split.bytes;
  found = bad;
}
known_of_bad text front rest line causes.Short split bad = bad
known_of_bad text front rest line causes.Unsettled split bad = tt

-- and of the first line of a text it is known behind nothing
pub known_here : (text : List ℕ) (cause : CutCause) → IsKnown text 1 (Some cause)
    → IsKnown ([] ++ text) (length (lines_of []) + 1) (Some cause)
known_here text cause known =
    subst (λ lines. IsKnown text (length lines + 1) (Some cause)) (sym lines_of_nil) known
