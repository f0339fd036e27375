-- What the marks of a text tell: where the number in front ends, and which are those of what follows.
use Rattle.std.proofs.Common.{◌≡◌, ℕ, zero, suc, ◌+◌, ◌-◌, ◌*◌, ◌/◌, ◌^◌, ◌<◌, ◌≤◌, Bool, true, false, not, cond, eqb}
use Rattle.std.proofs.Common.{List, [], ◌∷◌, length, map, take, drop, get_or, Some, refl, sym, ap, subst, ◌∙◌, arith}
use Rattle.std.proofs.Common.{inl, inr, pow-suc}
use Rattle.std.specs.List.{prefix_len}
use Rattle.std.specs.Simd.Lanes.{mask_l}
use lib.Count.{count_trailing_zeros}
use Rattle.std.proofs.Math.Nat.{div-div-eq-div-mul, mul_comm, zero-div, div-one}
use Rattle.std.proofs.lemmas.Bool.{cases_Bool, ne_eqb}
use Rattle.std.proofs.lemmas.List.{drop-map, get_or-drop, length-drop, length-take-le}
use Rattle.std.proofs.lemmas.Simd.{trailing_mask_l, run_in_chunk_fails, run_in_chunk_stops}
use Rattle.text_parts.specs.Marks.{AreMarks, IsNumeralInFront}
use Rattle.text_parts.specs.Numerals.{is_digit, value_of}
use Rattle.text_parts.specs.Packed.{less_zero, is_above_nine, BeginsWithDigits}
use Rattle.text_parts.specs.Reading.{numeral_at}
use Rattle.text_parts.proofs.FrontMasks.{digit_from, other_from}
use Rattle.text_parts.proofs.LongFronts.{Front, front_of, long_front, powers, tens}

abbrev is_other : ℕ → Bool
is_other byte = is_above_nine (less_zero byte)

-- ---- the marks of what follows

halved : (m : Bool) (n : ℕ) → (cond m 1 0 + 2 * n) / 2 ≡ n
halved true n = omega arith
halved false n = omega arith

mask_behind : (ms : List Bool) (k : ℕ) → mask_l ms / 2 ^ k ≡ mask_l (drop k ms)
mask_behind [] zero = div-one 0
mask_behind [] (suc k) = zero-div (2 ^ suc k)
mask_behind (m ∷ ms) zero = div-one (mask_l (m ∷ ms))
mask_behind (m ∷ ms) (suc k) =
    ap (λ n. mask_l (m ∷ ms) / n) (pow-suc 2 k ∙ mul_comm (2 ^ k) 2)
    ∙ sym (div-div-eq-div-mul (mask_l (m ∷ ms)) 2 (2 ^ k))
    ∙ ap (λ n. n / 2 ^ k) (halved m (mask_l ms)) ∙ mask_behind ms k

none_taken : (n : ℕ) → take {A = ℕ} n [] ≡ []
none_taken zero = refl
none_taken (suc n) = refl

taken_behind : (xs : List ℕ) (n k : ℕ) → drop k (take n xs) ≡ take (n - k) (drop k xs)
taken_behind xs n zero =
    let same : n ≡ n - 0 = omega arith in
    ap (λ (m : ℕ). take m xs) same
taken_behind [] zero (suc k) = sym (none_taken (zero - suc k))
taken_behind [] (suc n) (suc k) = sym (none_taken (suc n - suc k))
taken_behind (x ∷ xs) zero (suc k) =
    let none : zero ≡ zero - suc k = omega arith in
    ap (λ (m : ℕ). take m (drop k xs)) none
taken_behind (x ∷ xs) (suc n) (suc k) =
    let same : n - k ≡ suc n - suc k = omega arith in
    taken_behind xs n k ∙ ap (λ (m : ℕ). take m (drop k xs)) same

pub marks_behind : (text : List ℕ) (marks k : ℕ) → AreMarks text marks → AreMarks (drop k text) (marks / 2 ^ k)
marks_behind text marks k are = record {
  count = are.count - k;
  few = omega (arith, are.few);
  within = omega (arith, are.within, length-drop k text);
  bits = ap (λ m. m / 2 ^ k) are.bits ∙ mask_behind (map is_other (take are.count text)) k
      ∙ ap mask_l (drop-map is_other k (take are.count text)
      ∙ ap (map is_other) (taken_behind text are.count k));
}

-- ---- the number in front

set_within : (xs : List ℕ) → 0 < mask_l (map is_other xs) → prefix_len (λ byte. not (is_other byte)) xs < length xs
set_within [] some = absurd (omega arith)
set_within (x ∷ xs) some =
    elim (cases_Bool (is_other x)) [
      | inl other ↦ rw other (omega arith)
      | inr digit ↦
          let unset : ◌≡◌ {A = ℕ} (cond (is_other x) 1 0) 0 = rw digit refl in
          let later : 0 < mask_l (map is_other xs) = omega (arith, some, unset) in
          let rest = set_within xs later in
          rw digit (omega (arith, rest))
    ]

pub record EndsAt (text : List ℕ) (count : ℕ) : Type 0 where
  pub within : count < length text
  pub passed : (k : ℕ) → k < count → is_digit (get_or text k 0) ≡ true
  pub stops : is_digit (get_or text count 0) ≡ false

module _ (text : List ℕ) (marks : ℕ) (fits : (k : ℕ) → get_or text k 0 < 256) (are : AreMarks text marks)
    (some : marks ≡ 0 → ⊥) where
  pub digits_end : EndsAt text (count_trailing_zeros 64 marks)
  digits_end =
      let count = count_trailing_zeros 64 marks in
      let front : length (take are.count text) ≡ are.count = length-take-le are.count text are.within in
      let set : 0 < mask_l (map is_other (take are.count text)) = omega (arith, are.bits, some) in
      let counted : count ≡ prefix_len (λ byte. not (is_other byte)) (take are.count text) =
      ap (count_trailing_zeros 64) are.bits
      ∙ trailing_mask_l is_other 64 (take are.count text) (omega (arith, front, are.few)) set in
      let before : count < are.count = omega (arith, counted, front, set_within (take are.count text) set) in
      let room : 0 + are.count ≤ length text = omega (arith, are.within) in
      let at : 0 + count ≡ count = omega arith in
      record {
        within = omega (arith, before, are.within);
        passed = λ k lt. digit_from (get_or text k 0) (fits k)
            (run_in_chunk_fails is_other text 0 are.count count 0 room counted k (omega arith) (omega (arith, lt)));
        stops = other_from (get_or text count 0)
            (subst (λ n. is_other (get_or text n 0) ≡ true) at
            (run_in_chunk_stops is_other text 0 are.count count 0 room counted before));
      }

-- digits that end are read as the number that they are
pub numeral_there : (text : List ℕ) (count value : ℕ) → 0 < count → EndsAt text count → Front text count value
    → IsNumeralInFront text count value
unfolding numeral_at
numeral_there text count value some ends front =
    let not_none : eqb (prefix_len is_digit text) 0 ≡ false =
    ne_eqb (prefix_len is_digit text) 0 (λ none. omega (arith, none, front.count_is, some)) in
    record {
      first = ends.passed 0 some;
      more = ends.within;
      reads = rw not_none (ap (λ (v : ℕ). Some (v, drop (prefix_len is_digit text) text)) (sym front.value_is)
          ∙ ap (λ (n : ℕ). Some (value, drop n text)) (sym front.count_is));
      small = front.below;
    }

pub short_there : (text : List ℕ) (count value : ℕ) → count ≤ 8 → EndsAt text count → value ≡ value_of (take count text)
    → Front text count value
short_there text count value few ends value_is =
    front_of text count value (omega (arith, ends.within)) (omega (arith, few)) ends.passed (λ lt. ends.stops) value_is

pub long_there : (text : List ℕ) (count front value : ℕ) → 16 ≤ length text → EndsAt text count → 8 < count
    → count < 16 → front ≡ value_of (take 8 text) → value ≡ value_of (take (count - 8) (drop 8 text))
    → Front text count (front * get_or powers (count - 8) 0 + value)
long_there text count front value long ends many few front_is value_is =
    let more : ℕ = count - 8 in
    let whole : 8 + more ≡ count = omega (arith, many) in
    let begins : BeginsWithDigits text 8 front = record {
      few = omega arith;
      passed = λ k lt. ends.passed k (omega (arith, lt, many));
      stops = λ lt. absurd (omega arith);
      value_is = front_is;
    } in
    let later : BeginsWithDigits (drop 8 text) more value = record {
      few = omega (arith, few);
      passed = λ k lt.
          ap is_digit (get_or-drop 8 text k 0) ∙ ends.passed (8 + k) (omega (arith, lt, whole));
      stops = λ lt.
          ap is_digit (get_or-drop 8 text more 0)
          ∙ subst (λ n. is_digit (get_or text n 0) ≡ false) (sym whole) ends.stops;
      value_is = value_is;
    } in
    subst (λ n. Front text n (front * get_or powers more 0 + value)) whole
    (long_front text front more value (get_or powers more 0) long begins later (omega (arith, few)) (tens more
    (omega (arith, few))))
