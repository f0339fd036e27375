-- One more part behind others.
use Rattle.std.proofs.Common.{◌≡◌, ℕ, ◌+◌, List, [], ◌∷◌, ◌++◌, length, refl, sym, ap, ◌∙◌, append_assoc, flat_map}
use Rattle.std.proofs.lemmas.List.{flat_map_more}
use Rattle.text_parts.specs.Lines.{lines_of}
use Rattle.recording_audit.specs.declared.part.Part.{Part}
use Rattle.recording_audit.specs.Recording.{AreNumbered}

-- its lines are numbered behind theirs
pub numbered_more : (parts : List Part) (part : Part) (number next : ℕ) → AreNumbered number parts next
    → part.first ≡ next → part.last + 1 ≡ next + length (lines_of part.text.now)
    → AreNumbered number (parts ++ part ∷ []) (part.last + 1)
numbered_more [] part number next is first last =
    (first ∙ sym is, last ∙ ap (λ n. n + length (lines_of part.text.now)) (sym is), refl)
numbered_more (one ∷ parts) part number next is first last =
    (is.0, is.1, numbered_more parts part (one.last + 1) next is.2 first last)

-- what is made of each part, one behind the other, goes on by what is made of that one
pub more : {A : Type 0} (f : Part → List A) (parts : List Part) (part : Part) (all rest front after : List A)
    → all ≡ flat_map f parts ++ rest → rest ≡ front ++ after → front ≡ f part
    → all ≡ flat_map f (parts ++ part ∷ []) ++ after
more f parts part all rest front after so_far split is =
    so_far ∙ ap (λ ls. flat_map f parts ++ ls) (split ∙ ap (λ ls. ls ++ after) is)
    ∙ sym (append_assoc (flat_map f parts) (f part) after)
    ∙ ap (λ ls. ls ++ after) (flat_map_more f [] parts part)
