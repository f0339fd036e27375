-- A text's lines are its first line and the lines of what follows that: by induction along the first line.
use Rattle.std.proofs.Common.{◌≡◌, ℕ, ◌+◌, ◌<◌, ◌≤◌, true, false, List, [], ◌∷◌, length, get_or, take, drop, refl, sym}
use Rattle.std.proofs.Common.{ap, ◌∙◌, inl, inr, arith, add-one, one-add}
use Rattle.std.specs.List.{position_or_len, before_first, after_first}
use Rattle.std.proofs.lemmas.Bool.{cases_Bool, false_from_ne_true}
use Rattle.std.proofs.lemmas.List.{drop_all, take_all, drop-drop, length-drop}
use Rattle.std.proofs.lemmas.List.Sums.{position_or_len_is}
use Rattle.text_parts.specs.Lines.{is_line_feed, with_front, lines_of}

pub before_first-cons : (b : ℕ) (s : List ℕ) → is_line_feed b ≡ false →
    before_first is_line_feed (b ∷ s) ≡ b ∷ before_first is_line_feed s
before_first-cons b s e = rw (e, one-add) refl

pub after_first-cons : (b : ℕ) (s : List ℕ) → is_line_feed b ≡ false
    → after_first is_line_feed (b ∷ s) ≡ after_first is_line_feed s
after_first-cons b s e = rw (e, add-one, one-add, add-one) refl

pub before_first_at : (b : ℕ) (s : List ℕ) → is_line_feed b ≡ true → before_first is_line_feed (b ∷ s) ≡ []
before_first_at b s e = rw e refl

pub after_first_at : (b : ℕ) (s : List ℕ) → is_line_feed b ≡ true → after_first is_line_feed (b ∷ s) ≡ s
after_first_at b s e = rw e refl

pub lines_of_nil : lines_of [] ≡ []
unfolding lines_of
lines_of_nil = refl

pub lines_of_end : (b : ℕ) (s : List ℕ) → is_line_feed b ≡ true → lines_of (b ∷ s) ≡ [] ∷ lines_of s
unfolding lines_of
lines_of_end b s e = rw e refl

pub lines_of_more : (b : ℕ) (s : List ℕ) → is_line_feed b ≡ false → lines_of (b ∷ s) ≡ with_front b (lines_of s)
unfolding lines_of
lines_of_more b s e = rw e refl

-- the lines of a text that isn't empty are its first line and the lines of what follows it
pub lines_of_next : (s : List ℕ) → 0 < length s
    → lines_of s ≡ before_first is_line_feed s ∷ lines_of (after_first is_line_feed s)
lines_of_next [] h = absurd (omega arith)
lines_of_next (b ∷ []) h =
    elim (cases_Bool (is_line_feed b)) [
      | inl e ↦ rw (lines_of_end b [] e, before_first_at b [] e, after_first_at b [] e) refl
      | inr e ↦ rw (lines_of_more b [] e, before_first-cons b [] e, after_first-cons b [] e, lines_of_nil) refl
    ]
lines_of_next (b ∷ c ∷ s) h =
    elim (cases_Bool (is_line_feed b)) [
      | inl e ↦ rw (lines_of_end b (c ∷ s) e, before_first_at b (c ∷ s) e, after_first_at b (c ∷ s) e) refl
      | inr e ↦ rw (lines_of_more b (c ∷ s) e, before_first-cons b (c ∷ s) e, after_first-cons b (c ∷ s) e)
          (ap (with_front b) (lines_of_next (c ∷ s) (omega arith)))
    ]

-- where the first line feed stands
pub first_line_is : (s : List ℕ) (k : ℕ) → k ≤ length s → ((i : ℕ) → i < k → is_line_feed (get_or s i 0) ≡ true → ⊥) →
    (k < length s → is_line_feed (get_or s k 0) ≡ true) → position_or_len is_line_feed s ≡ k
first_line_is s k le before here = position_or_len_is is_line_feed s k 0 le
    (λ i lt. false_from_ne_true (is_line_feed (get_or s i 0)) (before i lt)) here

-- a line and what follows it are the first line and the rest of a text
pub record CutsLine (text line rest : List ℕ) : Type 0 where
  pub line_is : line ≡ before_first is_line_feed text
  pub rest_is : rest ≡ after_first is_line_feed text
  pub lines_are : 0 < length text → lines_of text ≡ line ∷ lines_of rest
  pub shorter : 0 < length text → length rest < length text

cut_from : (text line rest : List ℕ) → line ≡ before_first is_line_feed text → rest ≡ after_first is_line_feed text →
    (0 < length text → length rest < length text) → CutsLine text line rest
cut_from text line rest l r less = record {
  line_is = l;
  rest_is = r;
  lines_are =
      λ some. rw (l, r) (lines_of_next text some);
  shorter = less;
}

-- cut at the first line feed
pub cut_at_feed : (text : List ℕ) (k : ℕ) → k < length text →
    ((i : ℕ) → 0 ≤ i → i < k → is_line_feed (get_or text i 0) ≡ true → ⊥) → is_line_feed (get_or text k 0) ≡ true →
    CutsLine text (take k text) (drop 1 (drop k text))
cut_at_feed text k lt before here =
    let end : position_or_len is_line_feed text ≡ k =
    first_line_is text k (omega arith) (λ i below. before i (omega arith) below) (λ _. here) in
    cut_from text (take k text) (drop 1 (drop k text)) (sym (ap (λ n. take n text) end)) (drop-drop 1 k text
    ∙ sym (ap (λ n. drop (n + 1) text) end)) (λ _. omega (arith, length-drop 1 (drop k text), length-drop k text))

-- a text without a line feed is one line
pub cut_at_end : (text : List ℕ) → ((i : ℕ) → 0 ≤ i → i < length text → is_line_feed (get_or text i 0) ≡ true → ⊥) →
    CutsLine text text []
cut_at_end text before =
    let end : position_or_len is_line_feed text ≡ length text =
    first_line_is text (length text) (omega arith) (λ i below. before i (omega arith) below)
    (λ lt. absurd (omega arith)) in
    cut_from text text [] (sym (ap (λ n. take n text) end ∙ take_all (length text) text (omega arith)))
    (sym (ap (λ n. drop (n + 1) text) end ∙ drop_all (length text + 1) text (omega arith))) (λ some. some)
