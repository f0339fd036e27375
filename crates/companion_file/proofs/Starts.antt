-- The start is read just where the text is a time.
use Rattle.std.proofs.Common.{◌≡◌, ℕ, cond, eqb, List, length, min, Option, Some, None, refl, inl, inr}
use Rattle.std.proofs.lemmas.Bool.{cases_Bool}
use Rattle.text_parts.specs.Time.{IsTime}
use Rattle.text_parts.specs.Numerals.{many}
use Rattle.text_parts.specs.Reading.{◌>>=◌, time_at}
use Rattle.text_parts.proofs.Words.{time_word, time_from_word}
use Rattle.companion_file.specs.Shape.{start_line}
use Rattle.companion_file.specs.ShapeReading.{start_shape_at}

pub start_again : (text : List ℕ) (seconds nanoseconds : ℕ) → IsTime text seconds nanoseconds
    → start_shape_at text ≡ Some (start_line (min seconds many) nanoseconds)
unfolding start_shape_at
start_again text seconds nanoseconds time = rw (time_word text seconds nanoseconds time) refl

none_where_none : (text : List ℕ) (read : Option (ℕ × ℕ × List ℕ)) → time_at text ≡ read
    → ((seconds nanoseconds : ℕ) → IsTime text seconds nanoseconds → ⊥)
    → (read >>= λ time. cond (eqb (length time.2) 0) (Some (start_line time.0 time.1)) None) ≡ None
none_where_none text None e none = refl
none_where_none text (Some time) e none =
    elim (cases_Bool (eqb (length time.2) 0)) [
      | inl end ↦ let t = time_from_word text time.0 time.1 time.2 e end in absurd (none t.0 time.1 t.1)
      | inr more ↦ rw more refl
    ]

pub no_start : (text : List ℕ) → ((seconds nanoseconds : ℕ) → IsTime text seconds nanoseconds → ⊥)
    → start_shape_at text ≡ None
unfolding start_shape_at
no_start text none = none_where_none text (time_at text) refl none
