-- The columns of a head: a processor of three digits, and a pid with the spaces behind it.
use Rattle.std.proofs.Common.{◌≡◌, ℕ, ◌<◌, ◌≤◌, true, min, get_or, List, [], ◌∷◌, ◌++◌, length}
use Rattle.std.proofs.Common.{drop, Some, refl, ap, ◌∙◌, arith}
use Rattle.std.proofs.lemmas.List.{drop_more}
use Rattle.text_parts.specs.Numerals.{is_digit, value_of, many, IsNumeral}
use Rattle.text_parts.specs.Pieces.{IsGap}
use Rattle.text_parts.specs.Reading.{after_text}
use Rattle.text_parts.proofs.Runs.{digits_in_front, DigitsInFront}
use Rattle.ftrace_line.specs.Meaning.{processor_at}
use Rattle.ftrace_line.specs.Usual.{HasPid}

-- ---- the processor

three_digit_processor : (a b c : ℕ) (rest : List ℕ) (cpu : ℕ) → is_digit a ≡ true → is_digit b ≡ true
    → is_digit c ≡ true → cpu ≡ value_of (a ∷ b ∷ c ∷ []) → cpu < 1000
    → processor_at (91 ∷ a ∷ b ∷ c ∷ 93 ∷ rest) ≡ Some (cpu, rest)
unfolding processor_at after_text
three_digit_processor a b c rest cpu pa pb pc cpu_is below =
    let digits : List ℕ = a ∷ b ∷ c ∷ [] in
    let numeral : IsNumeral digits = record { some = omega arith; all = rw (pa, pb, pc) refl } in
    let front : DigitsInFront digits (93 ∷ rest) (digits ++ (93 ∷ rest)) =
    digits_in_front digits (93 ∷ rest) numeral refl in
    let value : min (value_of digits) many ≡ cpu = omega (arith, cpu_is) in
    rw front.length_is (ap (λ n. Some (n, rest)) value)

pub narrow_processor : (text : List ℕ) (cpu : ℕ) → 5 ≤ length text → get_or text 0 0 ≡ 91 → get_or text 4 0 ≡ 93
    → is_digit (get_or text 1 0) ≡ true → is_digit (get_or text 2 0) ≡ true → is_digit (get_or text 3 0) ≡ true
    → cpu ≡ value_of (get_or text 1 0 ∷ get_or text 2 0 ∷ get_or text 3 0 ∷ []) → cpu < 1000
    → processor_at text ≡ Some (cpu, drop 5 text)
narrow_processor text cpu long bracket close pa pb pc cpu_is below =
    let byte : ℕ → ℕ = λ index. get_or text index 0 in
    let whole : text ≡ 91 ∷ byte 1 ∷ byte 2 ∷ byte 3 ∷ 93 ∷ drop 5 text =
    drop_more text 0 0 (omega (arith, long)) ∙ ap (λ b. b ∷ drop 1 text) bracket
    ∙ ap (λ (t : List ℕ). 91 ∷ t) (drop_more text 1 0 (omega (arith, long))
    ∙ ap (λ (t : List ℕ). byte 1 ∷ t) (drop_more text 2 0 (omega (arith, long))
    ∙ ap (λ (t : List ℕ). byte 2 ∷ t) (drop_more text 3 0 (omega (arith, long))
    ∙ ap (λ (t : List ℕ). byte 3 ∷ t) (drop_more text 4 0 (omega (arith, long))
    ∙ ap (λ b. b ∷ drop 5 text) close)))) in
    ap processor_at whole ∙ three_digit_processor (byte 1) (byte 2) (byte 3) (drop 5 text) cpu pa pb pc cpu_is below

-- ---- the pid

pub pid_anywhere : (text middle rest : List ℕ) → (w : List ℕ) × IsNumeral w × (text ≡ w ++ middle)
    → (v : List ℕ) × IsGap v × (middle ≡ v ++ rest) → HasPid text rest
pid_anywhere text middle rest (w, numeral, front) (v, gap, behind) = record {
  digits = w;
  form = numeral;
  gap = v;
  gap_form = gap;
  parts = front ∙ ap (λ (t : List ℕ). w ++ t) behind;
}
