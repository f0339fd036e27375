-- The parts so far, and what is left of the text.
use Rattle.std.proofs.Common.{◌≡◌, ℕ, ◌+◌, ◌<◌, ◌≤◌, List, [], ◌∷◌, ◌++◌, length, All, refl, ap, ◌∙◌, subst, arith}
use Rattle.std.proofs.Common.{Option, flat_map, length-append}
use Rattle.std.proofs.lemmas.List.{append-nil, nil_from_length}
use Rattle.std.proofs.lemmas.List.Elements.{All-append, All-more, All-nil}
use Rattle.cfs_model.specs.Knobs.{KnobsView}
use Rattle.text_parts.specs.Lines.{lines_of}
use Rattle.text_parts.proofs.TextLines.{lines_of_nil}
use Rattle.recording_audit.specs.declared.part.Part.{Part}
use Rattle.recording_audit.specs.declared.cut_cause.CutCause.{CutCause}
use Rattle.recording_audit.specs.declared.not_audited.NotAudited.{NotAudited}
use Rattle.recording_audit.specs.declared.not_audited.NotAudited.TheVariants as nots
use Rattle.recording_audit.specs.Causes.{AreCaused, IsCaused, IsKnown}
use Rattle.recording_audit.specs.Parts.{IsLongEnough, IsTold}
use Rattle.recording_audit.specs.Recording.{AreNumbered, ArePartsOf, IsNotAudited, last_text}
use Rattle.recording_audit.specs.Pieces.{IsNoPiece, numbered_at}
use Rattle.recording_audit.specs.Splits.{AreSplit}
use Rattle.recording_audit.proofs.Causing.{caused_more, last_more}
use Rattle.recording_audit.proofs.Numbers.{more, numbered_more}

-- the parts and then the rest are the text, and the next line has this number; this is known of it
pub record IsGrown (limits : KnobsView) (least : ℕ) (text : List ℕ) (parts : List Part) (rest : List ℕ) (number : ℕ)
    (known : Option CutCause) : Type 0 where
  pub bytes : text ≡ flat_map (λ part. part.text.now) parts ++ rest
  pub lines : lines_of text ≡ flat_map (λ part. lines_of part.text.now) parts ++ lines_of rest
  pub numbered : AreNumbered 1 parts number
  pub counted : number + length (lines_of rest) ≡ length (lines_of text) + 1
  pub caused : AreCaused limits [] parts
  pub next : IsKnown (last_text [] parts ++ rest) (length (lines_of (last_text [] parts)) + 1) known
  pub told : All (λ part. IsTold limits part.text.now part.told) parts
  pub long : All (λ part. IsLongEnough least part.told) parts
  pub within : number + length rest ≤ length text + 1
  pub some : 0 < number

-- no part yet
pub grown_none : (limits : KnobsView) (least : ℕ) (text : List ℕ) (known : Option CutCause)
    → ((all : List ℕ) (line : ℕ) → IsKnown all line known) → IsGrown limits least text [] text 1 known
grown_none limits least text known is = record {
  bytes = refl;
  lines = refl;
  numbered = refl;
  counted = omega arith;
  caused = tt;
  next = is text (length (lines_of []) + 1);
  told = All-nil (λ part. IsTold limits part.text.now part.told);
  long = All-nil (λ part. IsLongEnough least part.told);
  within = omega arith;
  some = omega arith;
}

-- one more
pub grown_more : (limits : KnobsView) (least : ℕ) (text : List ℕ) (parts : List Part) (part : Part)
    (rest after : List ℕ) (number lines : ℕ) (known next : Option CutCause)
    → IsGrown limits least text parts rest number known
    → AreSplit rest part.text.now after → IsCaused limits (last_text [] parts) part.text.now part.told
    → IsKnown (part.text.now ++ after) (length (lines_of part.text.now) + 1) next
    → IsTold limits part.text.now part.told → IsLongEnough least part.told → part.first ≡ number
    → part.last + 1 ≡ number + lines → lines ≡ length (lines_of part.text.now)
    → lines ≤ length part.text.now → IsGrown limits least text (parts ++ part ∷ []) after (number + lines) next
grown_more limits least text parts part rest after number lines known next so_far split caused behind is long first
    last count few =
    let bytes_left = ap length split.bytes ∙ length-append part.text.now after in
    let lines_left = ap length split.lines ∙ length-append (lines_of part.text.now) (lines_of after) in
    let counted = so_far.counted in
    let within = so_far.within in
    let some = so_far.some in
    record {
      bytes = more (λ one. one.text.now) parts part text rest part.text.now after so_far.bytes split.bytes refl;
      lines = more (λ one. lines_of one.text.now) parts part (lines_of text) (lines_of rest)
          (lines_of part.text.now) (lines_of after) so_far.lines split.lines refl;
      numbered = subst (AreNumbered 1 (parts ++ part ∷ [])) last
          (numbered_more parts part 1 number so_far.numbered first (last ∙ ap (λ n. number + n) count));
      counted = omega (arith, counted, lines_left, count);
      caused = caused_more limits [] parts part so_far.caused caused;
      next = rw (last_more [] parts part) behind;
      told = All-append (λ one. IsTold limits one.text.now one.told) parts (part ∷ []) so_far.told
          (All-more (λ one. IsTold limits one.text.now one.told) (part ∷ []) 0 part (omega arith)
          (All-nil (λ one. IsTold limits one.text.now one.told)) is);
      long = All-append (λ one. IsLongEnough least one.told) parts (part ∷ []) so_far.long
          (All-more (λ one. IsLongEnough least one.told) (part ∷ []) 0 part (omega arith)
          (All-nil (λ one. IsLongEnough least one.told)) long);
      within = omega (arith, within, bytes_left, few);
      some = omega (arith, some);
    }

-- all of them
pub grown_whole : (limits : KnobsView) (least : ℕ) (text : List ℕ) (parts : List Part) (rest : List ℕ) (number : ℕ)
    (known : Option CutCause) → IsGrown limits least text parts rest number known → length rest ≡ 0
    → ArePartsOf limits least text parts
grown_whole limits least text parts rest number known so_far none =
    let nothing = nil_from_length rest none in
    let no_line : length (lines_of rest) ≡ 0 = ap (λ r. length (lines_of r)) nothing ∙ ap length lines_of_nil in
    let counted = so_far.counted in
    let next : number ≡ length (lines_of text) + 1 = omega (arith, counted, no_line) in
    let bytes = flat_map (λ part. part.text.now) parts in
    let lines = flat_map (λ part. lines_of part.text.now) parts in
    record {
      bytes = so_far.bytes ∙ ap (λ r. bytes ++ r) nothing ∙ append-nil bytes;
      lines = so_far.lines ∙ ap (λ r. lines ++ lines_of r) nothing ∙ ap (λ r. lines ++ r) lines_of_nil
          ∙ append-nil lines;
      numbered = subst (AreNumbered 1 parts) next so_far.numbered;
      caused = so_far.caused;
      told = so_far.told;
      long = so_far.long;
    }

-- not all of them: the first line of what is left can't be read on from, and is told by its number
pub grown_refused : (limits : KnobsView) (least : ℕ) (text : List ℕ) (parts : List Part) (rest : List ℕ) (number : ℕ)
    (known : Option CutCause) (why told : NotAudited) → IsGrown limits least text parts rest number known
    → 0 < length rest → IsNoPiece (last_text [] parts) rest why → told ≡ numbered_at number why
    → IsNotAudited text told
grown_refused limits least text parts rest number known (nots.Refused line cause) told so_far some why is =
    rw is (record {
      parts = parts;
      rest = rest;
      bytes = so_far.bytes;
      lines = so_far.lines;
      numbered = so_far.numbered;
      some = some;
      refused = why;
    })
grown_refused limits least text parts rest number known nots.Memory told so_far some why is = rw is tt

pub ruleset grown = (grown_none, grown_more, grown_whole, grown_refused)
