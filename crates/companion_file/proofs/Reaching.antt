-- How far the reader has come: the lines so far are a front of the text's lines, all of them good, and what was kept
-- of them is what they say.
use Rattle.std.proofs.Common.{◌≡◌, ℕ, ◌+◌, ◌<◌, ◌≤◌, Bool, false, eqb, List, [], ◌∷◌, ◌++◌, length, Ok, Err, refl, sym}
use Rattle.std.proofs.Common.{ap, subst, ◌∙◌, append_assoc, inl, inr, arith}
use Rattle.std.proofs.lemmas.Bool.{eqb-false}
use Rattle.std.proofs.lemmas.List.{length-append, append-nil, nil_from_length}
use Rattle.text_parts.specs.Lines.{lines_of}
use Rattle.text_parts.proofs.TextLines.{lines_of_nil}
use Rattle.companion_file.specs.declared.fault.CompanionCause.{CompanionCause}
use Rattle.companion_file.specs.declared.fault.CompanionCause.TheVariants.{Short}
use Rattle.companion_file.specs.declared.fault.Refusal.{Refusal}
use Rattle.companion_file.specs.declared.fault.Refusal.TheVariants as refusals
use Rattle.companion_file.specs.Shape.{Shape}
use Rattle.companion_file.specs.Earlier.{Said, summed, has_all_floors}
use Rattle.companion_file.specs.Companion.{CompanionView}
use Rattle.companion_file.specs.declared.fault.CompanionFault.TheVariants as faults
use Rattle.companion_file.specs.Draft.{Takes, KeepsOrder, IsCompleted, fault_at, with_line}
use Rattle.companion_file.specs.Companion.{AreGood, IsFirstBadCompanionLine, IsShort, IsRead}
use Rattle.companion_file.specs.Seen.{IsAnswered}
use Rattle.companion_file.proofs.Summing.{summed-push}
use Rattle.companion_file.proofs.GoodLines.{order_of_good, comment_after, good_line_after}

pub record IsReadUpTo (text rest : List ℕ) (number : ℕ) (kept : Said) : Type 0 where
  pub before : List (List ℕ)
  pub said : List Shape
  pub parts : lines_of text ≡ before ++ lines_of rest
  pub count : number ≡ length before
  pub good : AreGood [] before said
  pub kept_is : kept ≡ summed said
  pub fits : number + length rest ≤ length text

-- where a text isn't empty a line is left
pub some_left : (rest : List ℕ) (empty : Bool) → empty ≡ eqb (length rest) 0 → empty ≡ false → 0 < length rest
some_left rest empty is test = let no_end = eqb-false (length rest) 0 (sym is ∙ test) in omega arith

pub reached_nothing : (text : List ℕ) (kept : Said) → kept ≡ summed [] → IsReadUpTo text text 0 kept
reached_nothing text kept e = record {
  before = [];
  said = [];
  parts = refl;
  count = refl;
  good = refl;
  kept_is = e;
  fits = omega arith;
}

pub reached_line : (text rest line after : List ℕ) (number : ℕ) (old new : Said) (u : Unit {0})
    → IsReadUpTo text rest number old → lines_of rest ≡ line ∷ lines_of after → length after < length rest
    → Takes old line (Ok u) new
    → IsReadUpTo text after (number + 1) new
reached_line text rest line after number old new u at cut shorter (inl p) =
    record {
      before = at.before ++ line ∷ [];
      said = at.said;
      parts = at.parts ∙ ap (λ (ls : List (List ℕ)). at.before ++ ls) cut
          ∙ sym (append_assoc at.before (line ∷ []) (lines_of after));
      count = omega (arith, at.count, length-append at.before (line ∷ []));
      good = comment_after [] at.before at.said line at.good p.0;
      kept_is = p.1 ∙ at.kept_is;
      fits = omega (arith, at.fits);
    }
reached_line text rest line after number old new u at cut shorter (inr p) =
    record {
      before = at.before ++ line ∷ [];
      said = at.said ++ p.1.0 ∷ [];
      parts = at.parts ∙ ap (λ (ls : List (List ℕ)). at.before ++ ls) cut
          ∙ sym (append_assoc at.before (line ∷ []) (lines_of after));
      count = omega (arith, at.count, length-append at.before (line ∷ []));
      good = good_line_after [] at.before at.said line p.1.0 at.good p.0 (rw at.kept_is at p.1.1);
      kept_is = p.1.2 ∙ ap (λ (s : Said). with_line s p.1.0) at.kept_is ∙ sym (summed-push at.said p.1.0);
      fits = omega (arith, at.fits);
    }

pub reached_bad : (text rest line after : List ℕ) (number : ℕ) (old new : Said) (cause : CompanionCause)
    → IsReadUpTo text rest number old → lines_of rest ≡ line ∷ lines_of after
    → Takes old line (Err (refusals.Bad cause)) new
    → IsFirstBadCompanionLine (lines_of text) (number + 1) cause
reached_bad text rest line after number old new cause at cut refused =
    record {
      before = at.before;
      line = line;
      after = lines_of after;
      said = at.said;
      parts = at.parts ∙ ap (λ (ls : List (List ℕ)). at.before ++ ls) cut;
      place = ap (λ (n : ℕ). n + 1) at.count;
      good = at.good;
      content = refused.0;
      bad = rw at.kept_is at refused.1;
    }

-- at the end of the text the lines so far are all of its lines
all_lines : (text rest : List ℕ) (number : ℕ) (kept : Said) (at : IsReadUpTo text rest number kept) → length rest ≡ 0
    → at.before ≡ lines_of text
all_lines text rest number kept at empty =
    let none : lines_of rest ≡ [] = ap lines_of (nil_from_length rest empty) ∙ lines_of_nil in
    sym (at.parts ∙ ap (λ (ls : List (List ℕ)). at.before ++ ls) none ∙ append-nil at.before)

good_lines : (text rest : List ℕ) (number : ℕ) (kept : Said) (at : IsReadUpTo text rest number kept) → length rest ≡ 0
    → AreGood [] (lines_of text) at.said
good_lines text rest number kept at empty = subst (λ (ls : List (List ℕ)). AreGood [] ls at.said)
    (all_lines text rest number kept at empty) at.good

pub reached_order : (text rest : List ℕ) (number : ℕ) (kept : Said) → IsReadUpTo text rest number kept → KeepsOrder kept
reached_order text rest number kept at = rw at.kept_is (order_of_good at.before at.said at.good)

pub reached_short : (text rest : List ℕ) (number : ℕ) (kept : Said) → IsReadUpTo text rest number kept → length rest ≡ 0
    → has_all_floors kept ≡ false → IsShort (lines_of text) (number + 1) Short
reached_short text rest number kept at empty missing =
    record {
      said = at.said;
      good = good_lines text rest number kept at empty;
      missing = rw at.kept_is at missing;
      place = ap (λ (n : ℕ). n + 1) (at.count ∙ ap length (all_lines text rest number kept at empty));
      name = refl;
    }

pub reached_whole : (text rest : List ℕ) (number : ℕ) (kept : Said) (r : CompanionView)
    → IsReadUpTo text rest number kept → length rest ≡ 0 → IsCompleted kept r → IsRead (lines_of text) r
reached_whole text rest number kept r at empty whole =
    record {
      said = at.said;
      good = good_lines text rest number kept at empty;
      whole = rw at.kept_is at whole.whole;
      cpus_is = rw at.kept_is at whole.cpus_is;
      start_is = rw at.kept_is at whole.start_is;
      floors_is = rw at.kept_is at whole.floors_is;
      tasks_is = rw at.kept_is at whole.tasks_is;
      claims_is = rw at.kept_is at whole.claims_is;
      nices_is = rw at.kept_is at whole.nices_is;
      idles_is = rw at.kept_is at whole.idles_is;
      charges_is = rw at.kept_is at whole.charges_is;
    }

-- ---- the answers

pub refused_companion : (text rest line after : List ℕ) (number : ℕ) (old new : Said) (refusal : Refusal)
    → IsReadUpTo text rest number old → lines_of rest ≡ line ∷ lines_of after → Takes old line (Err refusal) new
    → IsAnswered text (Err (fault_at (number + 1) refusal))
refused_companion text rest line after number old new (refusals.Bad cause) at cut refused =
    inl (reached_bad text rest line after number old new cause at cut refused)
refused_companion text rest line after number old new refusals.Memory at cut refused = tt

pub short_answer : (text rest : List ℕ) (number : ℕ) (kept : Said) → IsReadUpTo text rest number kept → length rest ≡ 0
    → has_all_floors kept ≡ false → IsAnswered text (Err (faults.Text (number + 1) Short))
short_answer text rest number kept at empty missing = inr (reached_short text rest number kept at empty missing)
