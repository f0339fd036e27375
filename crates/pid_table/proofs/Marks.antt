-- Marks of pids: what a word that isn't there, a new one and a set bit say, and what those of a list's pids do.
use Rattle.std.proofs.Common.{◌≡◌, ◌≢◌, ◌∙◌, refl, sym, ap, ℕ, ◌-◌, ◌*◌, ◌/◌, ◌%◌, ◌^◌, ◌<◌, ◌≤◌, bit_or, arith}
use Rattle.std.proofs.Common.{inl, inr, ◌==◌, ◌||◌, true, false, true≢false, nat_eq, Option, None, Some}
use Rattle.std.proofs.Common.{List, [], ◌∷◌, ◌++◌, length, set, get_or, replicate, All}
use Rattle.std.specs.Int.{bit_at, w64}
use Rattle.std.proofs.lemmas.Bool.{eq-eqb, eqb-true, or_left, or_right}
use Rattle.std.proofs.lemmas.Bool.Decides.{eqb_tells}
use Rattle.std.proofs.lemmas.Grind.{get_or-set_at, get_or_default_zero}
use Rattle.std.proofs.lemmas.List.{get_or_past, get_or-set_other, get_or-replicate}
use Rattle.std.proofs.lemmas.List.Elements.{All-push}
use Rattle.std.proofs.lemmas.List.Quantifiers.{position-Some}
use Rattle.std.proofs.lemmas.Nat.Bits.{bit_at-zero, bit_at_ones, bit_at_set_same, bit_at_set_other}
use Rattle.pid_table.specs.Marks.{AreMarked, is_set, may_have}
use Rattle.pid_table.specs.Rows.{index_in}
use Rattle.pid_table.specs.declared.pid_marks.PidMarks.{PidMarks}
use Rattle.pid_table.specs.declared.pid_marks.TheConstants.{MARKED, BITS, WORDS}

-- the bit of a pid whose word isn't there counts as set
pub set_past : (words : List ℕ) (pid : ℕ) → length words ≤ pid % MARKED / BITS → is_set words pid ≡ true
set_past words pid past =
    let low : pid % BITS < 64 = omega arith in
    ap (λ word. bit_at word (pid % BITS) == 1) (get_or_past words (pid % MARKED / BITS) (2 ^ 64 - 1) past)
    ∙ ap (λ bit. bit == 1) (bit_at_ones 64 (pid % BITS) low)

-- no bit is set in words of 0
pub none_set : (pid : ℕ) → is_set (replicate WORDS 0) pid ≡ false
none_set pid =
    let within : pid % MARKED / BITS < WORDS = omega arith in
    ap (λ word. bit_at word (pid % BITS) == 1) (get_or-replicate WORDS (pid % MARKED / BITS) 0 (2 ^ 64 - 1) within)
    ∙ ap (λ bit. bit == 1) (bit_at-zero (pid % BITS))

-- a pid's bit is set in its word: those with the same low bits are marked, and all others as before
module _ (words : List ℕ) (index word pid : ℕ) (at : index ≡ pid % MARKED / BITS) (within : index < length words)
    (here : word ≡ get_or words index word) (other : ℕ) where
  -- the word, with it
  abbrev new : ℕ
  new = bit_or word (1 * 2 ^ (pid % BITS) % 2 ^ 64)

  bit : pid % BITS < 64
  bit = omega arith

  -- the other's bit is one of that word
  in_new : other % MARKED / BITS ≡ index → is_set (set words index new) other ≡ (bit_at new (other % BITS) == 1)
  in_new there =
      ap (λ w. bit_at w (other % BITS) == 1)
      (get_or-set_at words index (other % MARKED / BITS) new (2 ^ 64 - 1) there within)

  in_old : other % MARKED / BITS ≡ index → is_set words other ≡ (bit_at word (other % BITS) == 1)
  in_old there =
      ap (λ i. bit_at (get_or words i (2 ^ 64 - 1)) (other % BITS) == 1) there
      ∙ ap (λ w. bit_at w (other % BITS) == 1)
      (get_or_default_zero words index (2 ^ 64 - 1) within ∙ sym (here ∙ get_or_default_zero words index word within))

  -- it is the same bit
  same_bit : pid % MARKED ≡ other % MARKED → is_set (set words index new) other ≡ true
  same_bit same =
      in_new (omega (arith, at, same))
      ∙ ap (λ b. bit_at new b == 1) (omega (arith, same))
      ∙ ap (λ b. b == 1) (bit_at_set_same w64 word (pid % BITS) bit)

  -- it is another one, of that word or of another
  other_bit : pid % MARKED ≢ other % MARKED → is_set (set words index new) other ≡ is_set words other
  other_bit differ =
      elim (eqb_tells (other % MARKED / BITS) index) [
        | inl there ↦
            in_new there.1
            ∙ ap (λ b. b == 1) (bit_at_set_other w64 word (pid % BITS) bit (other % BITS)
            (λ e. differ (omega (arith, e, there.1, at))))
            ∙ sym (in_old there.1)
        | inr elsewhere ↦
            ap (λ w. bit_at w (other % BITS) == 1)
            (get_or-set_other words index (other % MARKED / BITS) new (2 ^ 64 - 1) elsewhere.1)
      ]

  pub bit_set : is_set (set words index new) other ≡ (pid % MARKED == other % MARKED || is_set words other)
  bit_set =
      elim (eqb_tells (pid % MARKED) (other % MARKED)) [
        | inl same ↦ same_bit same.1 ∙ sym (ap (λ b. b || is_set words other) same.0)
        | inr differ ↦ other_bit differ.1 ∙ sym (ap (λ b. b || is_set words other) differ.0)
      ]

-- nothing is to be set in a word that isn't there
pub bit_set_past : (words : List ℕ) (pid : ℕ) → length words ≤ pid % MARKED / BITS → (other : ℕ)
    → is_set words other ≡ (pid % MARKED == other % MARKED || is_set words other)
bit_set_past words pid past other =
    elim (eqb_tells (pid % MARKED) (other % MARKED)) [
      | inl same ↦
          set_past words other (omega (arith, same.1, past)) ∙ sym (ap (λ b. b || is_set words other) same.0)
      | inr differ ↦ sym (ap (λ b. b || is_set words other) differ.0)
    ]

-- each pid stays marked when one more is, which is then marked too
pub marked_more : (old new : PidMarks) (pids : List ℕ) (pid : ℕ)
    → ((other : ℕ) → may_have new other ≡ (pid % MARKED == other % MARKED || may_have old other))
    → AreMarked old pids → AreMarked new (pids ++ pid ∷ [])
marked_more old new pids pid more marked =
    All-push (λ other. may_have new other ≡ true) pids pid
    (λ i d h.
    let other = get_or pids i d in
    more other ∙ or_right (pid % MARKED == other % MARKED) (may_have old other) (marked i d h))
    (more pid ∙ or_left (pid % MARKED == pid % MARKED) (may_have old pid) (eq-eqb (pid % MARKED) (pid % MARKED) refl))

-- a pid that isn't marked stands nowhere in a list of those that are
pub unmarked_nowhere : (marks : PidMarks) (pids : List ℕ) (pid : ℕ)
    → AreMarked marks pids → may_have marks pid ≡ false → index_in pids pid ≡ None
unmarked_nowhere marks pids pid marked unmarked = go (index_in pids pid) refl
  where
    go : (found : Option ℕ) → index_in pids pid ≡ found → found ≡ None
    go None none = refl
    go (Some i) is =
        let there = position-Some (nat_eq pid) pids i 0 is in
        absurd (true≢false (sym (marked i 0 there.0)
        ∙ ap (may_have marks) (sym (eqb-true pid (get_or pids i 0) there.1)) ∙ unmarked))
