-- The lines of a text are those of its whole lines and then those of what follows: by induction along the whole lines.
use Rattle.std.proofs.Common.{◌≡◌, ℕ, ◌+◌, ◌<◌, ◌≤◌, true, false, List, [], ◌∷◌, ◌++◌, length, get_or, drop, inl, inr}
use Rattle.std.proofs.Common.{refl, ap, ◌∙◌, subst, arith}
use Rattle.std.proofs.lemmas.Bool.{cases_Bool, false_from_ne_true}
use Rattle.std.proofs.lemmas.List.{length_push, length-drop, get_or-drop, get_or_default}
use Rattle.std.proofs.lemmas.List.Folds.{list_any_none}
use Rattle.std.specs.List.{before_first, after_first, list_any}
use Rattle.text_parts.specs.Lines.{is_line_feed, with_front, lines_of, IsWhole}
use Rattle.text_parts.proofs.TextLines.{lines_of_nil, lines_of_end, lines_of_more, lines_of_next}

-- a byte goes to the first of some lines, whatever follows them
with_front_append : (b : ℕ) (line : List ℕ) (lines more : List (List ℕ)) (all : List (List ℕ)) → all ≡ line ∷ lines
    → with_front b (all ++ more) ≡ with_front b all ++ more
with_front_append b line lines more all some = rw some refl

lines_after_feed : (front more : List ℕ) → lines_of ((front ++ 10 ∷ []) ++ more) ≡ lines_of (front ++ 10 ∷ [])
    ++ lines_of more
lines_after_feed [] more = rw (lines_of_end 10 more refl, lines_of_end 10 [] refl, lines_of_nil) refl
lines_after_feed (b ∷ front) more =
    elim (cases_Bool (is_line_feed b)) [
      | inl e ↦ rw (lines_of_end b ((front ++ 10 ∷ []) ++ more) e, lines_of_end b (front ++ 10 ∷ []) e)
          (ap (λ lines. [] ∷ lines) (lines_after_feed front more))
      | inr e ↦ (
          let whole = front ++ 10 ∷ [] in
          let some : 0 < length whole = omega (arith, length_push front 10) in
          rw (lines_of_more b (whole ++ more) e, lines_of_more b whole e, lines_after_feed front more)
          (with_front_append b (before_first is_line_feed whole) (lines_of (after_first is_line_feed whole))
          (lines_of more) (lines_of whole) (lines_of_next whole some)))
    ]

pub after_whole : (text more : List ℕ) → IsWhole text → lines_of (text ++ more) ≡ lines_of text ++ lines_of more
after_whole text more (inl none) = rw (none, lines_of_nil) refl
after_whole text more (inr whole) = rw whole.1 (lines_after_feed whole.0 more)

-- no line feed stands from an index on
pub no_feeds : (text : List ℕ) (from : ℕ)
    → ((i : ℕ) → from ≤ i → i < length text → is_line_feed (get_or text i 0) ≡ true → ⊥)
    → list_any is_line_feed (drop from text) ≡ false
no_feeds text from none =
    list_any_none is_line_feed (drop from text) (λ k d h.
    let inside : from + k < length text = omega (arith, length-drop from text, h) in
    let here : get_or (drop from text) k d ≡ get_or text (from + k) 0 =
    get_or-drop from text k d ∙ get_or_default text (from + k) d 0 inside in
    false_from_ne_true (is_line_feed (get_or (drop from text) k d)) (λ feed.
    none (from + k) (omega arith) inside (subst (λ (b : ℕ). is_line_feed b ≡ true) here feed)))
