-- Where lines end among bytes.
use Rattle.std.proofs.Common.{◌≡◌, ◌≢◌, ℕ, suc, ◌+◌, ◌<◌, ◌≤◌, true, false, List, [], ◌∷◌, ◌++◌, length, take}
use Rattle.std.proofs.Common.{inl, inr, refl, sym, ap, ◌∙◌, subst, arith, add-one, one-add}
use Rattle.std.specs.List.{before_first, list_any}
use Rattle.std.proofs.lemmas.Bool.{cases_Bool, eqb-true, or_parts}
use Rattle.std.proofs.lemmas.List.Folds.{list_any-append}
use Rattle.text_parts.specs.Lines.{is_line_feed, lines_of, with_front}
use Rattle.text_parts.proofs.TextLines.{lines_of_end, lines_of_more, lines_of_nil}

-- ---- lines without a line feed

pub line_fed : (line : List ℕ) → list_any is_line_feed line ≡ false → lines_of (line ++ 10 ∷ []) ≡ line ∷ []
line_fed [] e = lines_of_end 10 [] refl ∙ ap (λ ls. [] ∷ ls) lines_of_nil
line_fed (b ∷ line) e =
    let p = or_parts (is_line_feed b) (list_any is_line_feed line) e in
    lines_of_more b (line ++ 10 ∷ []) p.0 ∙ ap (with_front b) (line_fed line p.1)

pub line_unfed : (line : List ℕ) → 0 < length line → list_any is_line_feed line ≡ false → lines_of line ≡ line ∷ []
line_unfed [] some e = absurd (omega (arith, some))
line_unfed (b ∷ []) some e =
    let p = or_parts (is_line_feed b) (list_any is_line_feed []) e in
    lines_of_more b [] p.0 ∙ ap (with_front b) lines_of_nil
line_unfed (b ∷ c ∷ line) some e =
    let p = or_parts (is_line_feed b) (list_any is_line_feed (c ∷ line)) e in
    lines_of_more b (c ∷ line) p.0 ∙ ap (with_front b) (line_unfed (c ∷ line) (omega arith) p.1)

pub none_in_front : (front more : List ℕ) → list_any is_line_feed (front ++ more) ≡ false
    → list_any is_line_feed front ≡ false
none_in_front front more e = (or_parts (list_any is_line_feed front) (list_any is_line_feed more)
    (sym (list_any-append is_line_feed front more) ∙ e)).0

pub none_in_both : (front more : List ℕ) → list_any is_line_feed front ≡ false → list_any is_line_feed more ≡ false
    → list_any is_line_feed (front ++ more) ≡ false
none_in_both front more e f = list_any-append is_line_feed front more ∙ rw (e, f) refl

-- ---- the first line feed of a text

before_cons : (b : ℕ) (s : List ℕ) → is_line_feed b ≡ false
    → before_first is_line_feed (b ∷ s) ≡ b ∷ before_first is_line_feed s
before_cons b s e = rw (e, one-add) refl

before_at : (b : ℕ) (s : List ℕ) → is_line_feed b ≡ true → before_first is_line_feed (b ∷ s) ≡ []
before_at b s e = rw e refl

pub no_feed_before : (s : List ℕ) → list_any is_line_feed (before_first is_line_feed s) ≡ false
no_feed_before [] = refl
no_feed_before (b ∷ s) =
    elim (cases_Bool (is_line_feed b)) [
      | inl e ↦ rw (before_at b s e) refl
      | inr e ↦ rw (before_cons b s e, e) (no_feed_before s)
    ]

pub before_within : (s : List ℕ) → length (before_first is_line_feed s) ≤ length s
before_within [] = omega arith
before_within (b ∷ s) =
    elim (cases_Bool (is_line_feed b)) [
      | inl e ↦ rw (before_at b s e) (omega arith)
      | inr e ↦ let later = before_within s in rw (before_cons b s e) (omega (arith, later))
    ]

pub all_before : (s : List ℕ) → length s ≤ length (before_first is_line_feed s) → before_first is_line_feed s ≡ s
all_before [] le = refl
all_before (b ∷ s) le =
    elim (cases_Bool (is_line_feed b)) [
      | inl e ↦ absurd (omega (arith, le, ap length (before_at b s e)))
      | inr e ↦ before_cons b s e ∙ ap (λ (t : List ℕ). b ∷ t)
          (all_before s (omega (arith, le, ap length (before_cons b s e))))
    ]

-- the first line with its end
pub end_of_first : (s : List ℕ) → length (before_first is_line_feed s) < length s
    → take (length (before_first is_line_feed s) + 1) s ≡ before_first is_line_feed s ++ 10 ∷ []
end_of_first [] lt = absurd (omega (arith, lt))
end_of_first (b ∷ s) lt =
    elim (cases_Bool (is_line_feed b)) [
      | inl e ↦ rw (before_at b s e) (ap (λ c. c ∷ []) (eqb-true b 10 e))
      | inr e ↦
          let shorter : length (before_first is_line_feed s) < length s =
          omega (arith, lt, ap length (before_cons b s e)) in
          let up : length (before_first is_line_feed s) + 1 ≡ suc (length (before_first is_line_feed s)) =
          omega arith in
          rw (before_cons b s e, add-one) (ap (λ (t : List ℕ). b ∷ t)
          (ap (λ n. take n s) (sym up) ∙ end_of_first s shorter))
    ]

-- no line feed is among bytes of which the first line is all
pub no_feed : (bytes piece : List ℕ) → piece ≡ before_first is_line_feed bytes → length bytes ≤ length piece
    → list_any is_line_feed bytes ≡ false
no_feed bytes piece is le =
    let all = all_before bytes (omega (arith, le, ap length is)) in
    subst (λ (t : List ℕ). list_any is_line_feed t ≡ false) all (no_feed_before bytes)

-- up to the first line feed, and with that
pub first_end : (bytes piece : List ℕ) → piece ≡ before_first is_line_feed bytes → length piece ≢ length bytes
    → take (length piece + 1) bytes ≡ before_first is_line_feed bytes ++ 10 ∷ []
first_end bytes piece is unlike =
    let same = ap length is in
    let within = before_within bytes in
    let shorter : length (before_first is_line_feed bytes) < length bytes = omega (arith, same, within, unlike) in
    ap (λ n. take (n + 1) bytes) same ∙ end_of_first bytes shorter
