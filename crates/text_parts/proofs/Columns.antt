-- A number in a column of eight bytes: digits are in front, and no bit from their end on is that of another byte than a
-- space.
use Rattle.std.proofs.Common.{◌≡◌, ℕ, ◌+◌, ◌-◌, ◌/◌, ◌%◌, ◌^◌, ◌<◌, ◌≤◌, Bool, true, false, not, cond, List, [], ◌∷◌}
use Rattle.std.proofs.Common.{◌++◌, length, map, take, drop, get_or, suc, refl, sym, ap, ◌∙◌, arith}
use Rattle.std.specs.Prelude.{IsTrue}
use Rattle.std.specs.List.{list_all}
use Rattle.std.specs.Simd.Lanes.{mask_l}
use Rattle.std.proofs.Math.Nat.{div-div-eq-div-mul, zero-div}
use Rattle.std.proofs.lemmas.Bool.{and_from, not-false}
use Rattle.std.proofs.lemmas.List.{drop-drop, get_or-drop, get_or-map, get_or-take, length-drop, length-take-le}
use Rattle.std.proofs.lemmas.List.{take-append-drop}
use Rattle.std.proofs.lemmas.Nat.{pow-add}
use Rattle.std.proofs.lemmas.Simd.{bit_mask_l}
use Rattle.text_parts.specs.Numerals.{is_digit}
use Rattle.text_parts.specs.Packed.{BeginsWithColumn, BeginsWithRun}
use Rattle.text_parts.specs.Pieces.{is_space}

all_from : (p : ℕ → Bool) (xs : List ℕ) → ((k : ℕ) → k < length xs → p (get_or xs k 0) ≡ true) → IsTrue (list_all p xs)
all_from p [] h = refl
all_from p (x ∷ xs) h =
    and_from (p x) (list_all p xs) (h 0 (omega arith)) (all_from p xs (λ k lt. h (suc k) (omega (arith, lt))))

unset : (b : Bool) → ◌≡◌ {A = ℕ} (cond b 1 0) 0 → b ≡ false
unset true e = absurd cc
unset false e = refl

-- no bit from one on is set, where none is left behind those before it
none_above : (ms : List Bool) (n i : ℕ) → mask_l ms / 2 ^ n ≡ 0 → n ≤ i → get_or ms i false ≡ false
none_above ms n i none le =
    let rest : n + (i - n) ≡ i = omega (arith, le) in
    let left : mask_l ms / 2 ^ i ≡ 0 =
    ap (λ k. mask_l ms / 2 ^ k) (sym rest) ∙ ap (λ d. mask_l ms / d) (pow-add 2 n (i - n))
    ∙ sym (div-div-eq-div-mul (mask_l ms) (2 ^ n) (2 ^ (i - n))) ∙ ap (λ m. m / 2 ^ (i - n)) none
    ∙ zero-div (2 ^ (i - n)) in
    unset (get_or ms i false) (sym (bit_mask_l ms i) ∙ ap (λ m. m % 2) left)

pub column_in_front : (text : List ℕ) (count others : ℕ) → 8 ≤ length text → BeginsWithRun is_digit text count
    → 0 < count → count < 8 → others ≡ mask_l (map (λ byte. not (is_space byte)) (take 8 text))
    → others / 2 ^ count ≡ 0 → BeginsWithColumn text
column_in_front text count others long run some few others_are none =
    let front : length (take count text) ≡ count = length-take-le count text (omega (arith, long, few)) in
    let behind : length (drop count text) ≡ length text - count = length-drop count text in
    let gap : List ℕ = take (8 - count) (drop count text) in
    let wide : length gap ≡ 8 - count =
    length-take-le (8 - count) (drop count text) (omega (arith, behind, long, few)) in
    let eight : length (take 8 text) ≡ 8 = length-take-le 8 text long in
    let whole : count + (8 - count) ≡ 8 = omega (arith, few) in
    let spaces : (i : ℕ) → count ≤ i → i < 8 → is_space (get_or text i 0) ≡ true = λ i from before.
    not-false (is_space (get_or text i 0)) (ap (λ byte. not (is_space byte)) (sym (get_or-take 8 text i 0 before))
    ∙ sym (get_or-map (λ byte. not (is_space byte)) (take 8 text) i 0 false (omega (arith, eight, before)))
    ∙ none_above (map (λ byte. not (is_space byte)) (take 8 text)) count i
    (ap (λ m. m / 2 ^ count) (sym others_are) ∙ none) from) in
    record {
      digits = take count text;
      form = record {
        some = omega (arith, front, some);
        all = all_from is_digit (take count text) (λ k lt.
            ap is_digit (get_or-take count text k 0 (omega (arith, front, lt)))
            ∙ run.passed k (omega (arith, front, lt)));
      };
      gap = gap;
      gap_form = record {
        some = omega (arith, wide, few);
        all = all_from is_space gap (λ k lt.
            ap is_space (get_or-take (8 - count) (drop count text) k 0 (omega (arith, wide, lt))
            ∙ get_or-drop count text k 0)
            ∙ spaces (count + k) (omega arith) (omega (arith, wide, lt, few)));
      };
      parts = sym (take-append-drop count text)
          ∙ ap (λ (t : List ℕ). take count text ++ t) (sym (take-append-drop (8 - count) (drop count text))
          ∙ ap (λ (t : List ℕ). gap ++ t) (drop-drop (8 - count) count text
          ∙ ap (λ n. drop n text) whole));
    }
