-- What the marks of a text tell of its numbers is read of them.
use Rattle.std.proofs.Common.{◌≡◌, ℕ, ◌+◌, List, ◌∷◌, drop, get_or, min, pos, Some, None, sym, ap, ◌∙◌}
use Rattle.std.proofs.Common.{refl, arith, true≢false}
use Rattle.std.specs.Prelude.{codes}
use Rattle.std.proofs.lemmas.List.{drop_more}
use Rattle.text_parts.specs.Marks.{IsNumeralInFront}
use Rattle.text_parts.specs.Numerals.{is_digit}
use Rattle.text_parts.specs.Reading.{after_text}
use Rattle.text_parts.proofs.Runs.{no_text, text_again}
use Rattle.companion_file.specs.ShapeReading.{beyond_range, integer_at, number_field}

pub field_read : (text : List ℕ) (count value : ℕ) → IsNumeralInFront text count value → get_or text count 0 ≡ 32
    → number_field text ≡ Some (value, drop (count + 1) text)
unfolding number_field
field_read text count value number space =
    let behind : drop count text ≡ 32 ∷ drop (count + 1) text =
    drop_more text count 0 number.more ∙ ap (λ b. b ∷ drop (count + 1) text) space in
    rw (number.reads, behind, text_again (codes " ") (drop (count + 1) text)) refl

pub integer_read : (text : List ℕ) (count value : ℕ) → IsNumeralInFront text count value
    → integer_at text ≡ Some (pos value, drop count text)
unfolding integer_at
integer_read text count value number =
    let no_sign : after_text (codes "-") text ≡ None = no_text (codes "-") text (λ rest e.
    true≢false (sym number.first ∙ ap (λ (t : List ℕ). is_digit (get_or t 0 0)) e)) in
    let small : min value beyond_range ≡ value = omega (arith, number.small) in
    rw (no_sign, number.reads, small) refl
