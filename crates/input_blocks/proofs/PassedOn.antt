-- A text is read by its whole lines; the beginning of a line behind them is left.
use Rattle.std.proofs.Common.{◌≡◌, ℕ, List, [], ◌∷◌, ◌++◌, Option, Some, None, inl, inr, refl, sym, ap, ◌∙◌, subst}
use Rattle.std.proofs.lemmas.List.{append_assoc, append-nil}
use Rattle.std.specs.Io.KnownBytes.{Consumes, IsAtEnd}
use Rattle.text_parts.specs.Lines.{lines_of, IsWhole}
use Rattle.audit_input.specs.Known.{Agrees}
use Rattle.input_blocks.specs.Held.{PassesWhole}

-- no text has no lines
pub lines_of_none : lines_of [] ≡ []
unfolding lines_of
lines_of_none = refl

-- whole lines and whole lines
pub whole_and_whole : (front whole : List ℕ) → IsWhole front → IsWhole whole → IsWhole (front ++ whole)
whole_and_whole front whole before (inl none) =
    subst IsWhole (sym (ap (λ bytes. front ++ bytes) none ∙ append-nil front)) before
whole_and_whole front whole before (inr ends) =
    inr (front ++ ends.0, ap (λ bytes. front ++ bytes) ends.1 ∙ sym (append_assoc front ends.0 (10 ∷ [])))

module _ {R : Type 0} (reads : R → R → List (List ℕ) → Type 0) where
  -- no line is whole yet
  pub passes_none : ((reader : R) → reads reader reader []) → (reader : R) (bytes : List ℕ)
      → PassesWhole reads reader reader bytes bytes
  passes_none none reader bytes = record {
    whole = [];
    parts = refl;
    ends = inl refl;
    read = subst (reads reader reader) (sym lines_of_none) (none reader);
  }

-- no byte is consumed yet
pub consumes_none : (left : Option (List ℕ)) → Consumes left left []
consumes_none None = tt
consumes_none (Some bytes) = refl

-- what was consumed up to the end is all
pub whole_input : (left after : Option (List ℕ)) (bytes : List ℕ) → Consumes left after bytes → IsAtEnd after
    → Agrees left bytes
whole_input None after bytes consumed end = tt
whole_input (Some known) None bytes consumed end = absurd consumed
whole_input (Some known) (Some rest) bytes consumed end =
    consumed ∙ ap (λ behind. bytes ++ behind) end ∙ append-nil bytes
