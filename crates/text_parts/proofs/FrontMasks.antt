-- Which of eight bytes are the digits in front, by the bits of those that are none.
use Rattle.std.proofs.Common.{◌≡◌, ℕ, ◌+◌, ◌%◌, ◌<◌, ◌≤◌, Bool, true, false, not, leb}
use Rattle.std.proofs.Common.{List, map, length, take, get_or, sym, ap, subst, ◌∙◌, arith}
use Rattle.std.proofs.lemmas.Bool.{and_from, ltb-true, ltb-false, le-leb, false_from_ne_true}
use Rattle.std.proofs.lemmas.List.{length-take-le}
use Rattle.std.proofs.lemmas.Simd.{map-map, none_from_empty_mask, trailing_mask_l, run_in_chunk_le, run_in_chunk_fails}
use Rattle.std.proofs.lemmas.Simd.{run_in_chunk_stops}
use Rattle.std.specs.Simd.Lanes.{mask_l}
use Rattle.std.specs.List.{prefix_len}
use lib.Count.{count_trailing_zeros}
use Rattle.text_parts.specs.Numerals.{is_digit}
use Rattle.text_parts.specs.Packed.{less_zero, is_above_nine}
use Rattle.text_parts.proofs.FrontValues.{digit_byte}

pub digit_from : (byte : ℕ) → byte < 256 → is_above_nine (less_zero byte) ≡ false → is_digit byte ≡ true
digit_from byte fits e =
    let most : (byte + 208) % 256 ≤ 9 = ltb-false 9 ((byte + 208) % 256) e in
    and_from (leb 48 byte) (leb byte 57) (le-leb 48 byte (omega (arith, most, fits)))
    (le-leb byte 57 (omega (arith, most, fits)))

pub other_from : (byte : ℕ) → is_above_nine (less_zero byte) ≡ true → is_digit byte ≡ false
other_from byte e =
    let above : 9 < (byte + 208) % 256 = ltb-true 9 ((byte + 208) % 256) e in
    false_from_ne_true (is_digit byte) (λ digit.
    let it = digit_byte byte digit in
    omega (arith, above, it.less, it.nine))

abbrev is_other : ℕ → Bool
is_other byte = is_above_nine (less_zero byte)

-- the bits of others, by the bytes of the text
abbrev pub IsMaskOf : List ℕ → ℕ → Type 0
IsMaskOf text mask = mask ≡ mask_l (map (λ byte. is_above_nine (less_zero byte)) (take 8 text))

pub mask_of : (text digits : List ℕ) (mask : ℕ) → digits ≡ map less_zero (take 8 text)
    → mask ≡ mask_l (map is_above_nine digits) → IsMaskOf text mask
mask_of text digits mask digits_are mask_is =
    mask_is ∙ ap (λ l. mask_l (map is_above_nine l)) digits_are
    ∙ ap mask_l (map-map is_above_nine less_zero (take 8 text))

module _ (text : List ℕ) (mask : ℕ) (long : 8 ≤ length text) (fits : (k : ℕ) → get_or text k 0 < 256)
    (is : IsMaskOf text mask) where
  -- no bit is set
  pub all_digits : mask ≡ 0 → (k : ℕ) → k < 8 → is_digit (get_or text k 0) ≡ true
  all_digits none k lt =
      digit_from (get_or text k 0) (fits k)
      (none_from_empty_mask is_other text 0 8 0 (omega arith) (sym is ∙ none) k (omega arith) (omega arith))

  -- the lowest bit that is set
  pub record FirstOther (count : ℕ) : Type 0 where
    pub few : count ≤ 8
    pub passed : (k : ℕ) → k < count → is_digit (get_or text k 0) ≡ true
    pub stops : count < 8 → is_digit (get_or text count 0) ≡ false

  pub first_other : (mask ≡ 0 → ⊥) → FirstOther (count_trailing_zeros 64 mask)
  first_other some =
      let count = count_trailing_zeros 64 mask in
      let front : length (take 8 text) ≡ 8 = length-take-le 8 text long in
      let counted : count ≡ prefix_len (λ byte. not (is_other byte)) (take 8 text) =
      ap (count_trailing_zeros 64) is
      ∙ trailing_mask_l is_other 64 (take 8 text) (omega (arith, front)) (omega (arith, is, some)) in
      let room : 0 + 8 ≤ length text = omega arith in
      let at : 0 + count ≡ count = omega arith in
      record {
        few = run_in_chunk_le is_other text 0 8 count 0 room counted;
        passed = λ k lt. digit_from (get_or text k 0) (fits k)
            (run_in_chunk_fails is_other text 0 8 count 0 room counted k (omega arith) (omega arith));
        stops = λ lt. other_from (get_or text count 0)
            (subst (λ n. is_other (get_or text n 0) ≡ true) at
            (run_in_chunk_stops is_other text 0 8 count 0 room counted lt));
      }
