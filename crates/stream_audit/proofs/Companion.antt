-- A companion that is read on: what its reader reads comes behind what it has read. A bad line stays, since the lines
-- so far are never both good and not.
use Rattle.std.proofs.Common.{◌≡◌, ℕ, Bool, true, false, List, [], ◌∷◌, ◌++◌, Option, Some, None, refl, sym, ap, subst}
use Rattle.std.proofs.Common.{◌∙◌, append_assoc, append-nil, arith}
use Rattle.std.specs.Io.KnownBytes.{IsAtEnd}
use Rattle.std.specs.Prelude.{MatchOption, IsNone}
use Rattle.companion_file.proofs.GoingOn.{goes_nothing, goes_then}
use Rattle.companion_file.proofs.GoodLines.{nothing_order}
use Rattle.companion_file.proofs.OneAnswer.{never_good}
use Rattle.companion_file.proofs.Piecewise.{good_on}
use Rattle.companion_file.specs.Companion.{AreGood, IsFirstBadCompanionLine}
use Rattle.companion_file.specs.Earlier.{Said, summed}
use Rattle.companion_file.specs.Piecewise.{SaysOn as SaysLines}
use Rattle.companion_file.specs.Reader.{AreCountable, HasReadCompanion, IsBadSoFar, IsSaidSoFar}
use Rattle.companion_file.specs.declared.bad_line.BadLine.{BadLine}
use Rattle.companion_file.specs.declared.companion_reader.CompanionReader.{CompanionReader}
use Rattle.companion_file.specs.declared.fault.CompanionCause.{CompanionCause}
use Rattle.input_blocks.proofs.Beginning.{fresh}
use Rattle.input_blocks.specs.Blocks.{ComesTo, IsAmid, IsFresh, IsThen}
use Rattle.input_blocks.specs.OfCompanion.{ReadsCompanion}
use Rattle.text_parts.specs.Lines.{lines_of}
use Rattle.stream_audit.specs.Companion.{IsCompanionAt, SaysOn}
use Rattle.stream_audit.specs.declared.companion_input.CompanionInput.{CompanionInput}

-- ---- a bad line

bad_or_good : (lines more : List (List ℕ)) (number : ℕ) (cause : CompanionCause) (after : Said)
    → IsFirstBadCompanionLine lines number cause → SaysLines (summed []) (lines ++ more) after → ⊥
bad_or_good lines more number cause after b says =
    let shapes = good_on [] after (lines ++ more) says in
    never_good [] b.before b.line (b.after ++ more) shapes.0 cause nothing_order
    (record { said = b.said; good = b.good; content = b.content; bad = b.bad })
    (subst (λ (ls : List (List ℕ)). AreGood [] ls shapes.0)
    (ap (λ (ls : List (List ℕ)). ls ++ more) b.parts ∙ append_assoc b.before (b.line ∷ b.after) more) shapes.1)

good_before : (bad worse : Option BadLine) (lines more : List (List ℕ)) (count later : ℕ)
    (held held_later said after : Said) (edge below : ℕ) → AreCountable lines
    → MatchOption bad (IsSaidSoFar lines count held said edge) (λ b. IsBadSoFar lines b held.version)
    → MatchOption worse (IsSaidSoFar (lines ++ more) later held_later after below)
    (λ b. IsBadSoFar (lines ++ more) b held_later.version)
    → IsNone worse → IsNone bad
good_before None worse lines more count later held held_later said after edge below few was is none = refl
good_before (Some b) None lines more count later held held_later said after edge below few was is none =
    absurd (bad_or_good lines more b.line b.cause after (was.first few) is.good)
good_before (Some b) (Some w) lines more count later held held_later said after edge below few was is none = absurd cc

-- where none of the lines is bad, none was bad of those before
pub still_good : (old new : CompanionReader) (lines more : List (List ℕ)) (said after : Said) (edge below : ℕ)
    → AreCountable lines → HasReadCompanion old lines said edge → HasReadCompanion new (lines ++ more) after below
    → IsNone new.bad → IsNone old.bad
still_good old new lines more said after edge below few was is none =
    good_before old.bad new.bad lines more old.count new.count old.draft new.draft said after edge below few was is none

-- the same, where no more were read
pub good_same : (old new : CompanionReader) (lines : List (List ℕ)) (said : Said) (edge below : ℕ)
    → AreCountable lines → HasReadCompanion old lines said edge → HasReadCompanion new lines said below
    → IsNone new.bad → IsNone old.bad
good_same old new lines said edge below few was is none =
    still_good old new lines [] said said edge below few was
    (subst (λ (ls : List (List ℕ)). HasReadCompanion new ls said below) (sym (append-nil lines)) is) none

-- ---- reading on

pub nothing_read : (gave : Option (List ℕ)) (input : CompanionInput) → IsFresh input.blocks
    → HasReadCompanion input.reader [] (summed []) 0 → input.goes_on ≡ true
    → IsCompanionAt gave gave input (summed []) 0
unfolding lines_of
nothing_read gave input blocks read runs = record {
  done = [];
  read = read;
  few = omega arith;
  stands = subst (λ (b : Bool). IsThen ReadsCompanion gave gave input.blocks [] b) (sym runs)
      (fresh ReadsCompanion gave input.blocks blocks);
  at_end = λ ended. (let wrong = sym runs ∙ ended in absurd cc);
}

pub says_nothing : (gave left : Option (List ℕ)) (input : CompanionInput) (said : Said) (edge : ℕ)
    → IsCompanionAt gave left input said edge → SaysOn gave left input input said edge
says_nothing gave left input said edge at = record {
  after = said;
  at = at;
  more = goes_nothing said;
  ended = λ e. (e, refl);
  good = λ none. none;
}

-- one block more
pub says_more : (gave before left : Option (List ℕ)) (first old new : CompanionInput) (said : Said) (edge : ℕ)
    → old.goes_on ≡ true
    → ((done : List ℕ) → IsAmid ReadsCompanion gave before old.blocks done
    → ComesTo ReadsCompanion old.reader new.reader gave left new.blocks done new.goes_on)
    → (new.goes_on ≡ false → IsAtEnd left)
    → SaysOn gave before first old said edge → SaysOn gave left first new said edge
says_more gave before left first old new said edge runs next end so =
    let at = so.at in
    let come = next at.done
    (subst (λ (b : Bool). IsThen ReadsCompanion gave before old.blocks at.done b) runs at.stands) in
    let read = come.read (lines_of at.done) so.after edge at.read in
    record {
      after = read.0;
      at = record {
        done = at.done ++ come.more;
        read = subst (λ (ls : List (List ℕ)). HasReadCompanion new.reader ls read.0 edge) (sym come.lines) read.1;
        few = come.few;
        stands = come.next;
        at_end = end;
      };
      more = goes_then said so.after read.0 so.more read.2;
      ended = λ e. (let wrong = (so.ended e).0 in absurd cc);
      good = λ none. so.good (still_good old.reader new.reader (lines_of at.done) (lines_of come.more) so.after read.0
          edge edge at.few at.read read.1 none);
    }
