-- Times as ftrace prints them: seconds, a point, and six or nine digits (ftrace.rst, the clocks `local` and `mono`).
use Rattle.std.specs.Prelude.{◌≡◌, ℕ, ◌*◌, ◌⊎◌, List, [], ◌∷◌, codes, length}
use Rattle.text_parts.specs.Numerals.{value_of, IsNumeral}
use Rattle.text_parts.specs.Pieces.{joined}

-- the digits behind the point are microseconds where they are six, and nanoseconds where they are nine
abbrev pub IsFraction : List ℕ → ℕ → Type 0
IsFraction digits nanoseconds =
    ((length digits ≡ 6) × (nanoseconds ≡ value_of digits * 1000))
    ⊎ ((length digits ≡ 9) × (nanoseconds ≡ value_of digits))

-- the text is a time of so many seconds and nanoseconds
pub record IsTime (text : List ℕ) (seconds nanoseconds : ℕ) : Type 0 where
  pub whole_digits : List ℕ
  pub whole_numeral : IsNumeral whole_digits
  pub whole_value : seconds ≡ value_of whole_digits
  pub fraction_digits : List ℕ
  pub fraction_numeral : IsNumeral fraction_digits
  pub fraction_value : IsFraction fraction_digits nanoseconds
  pub whole : text ≡ joined (whole_digits ∷ codes "." ∷ fraction_digits ∷ [])
