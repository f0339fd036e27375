-- Bytes of a text's front that are marked where they are no digits. Nothing here is to be believed.
use Rattle.std.specs.Prelude.{◌≡◌, ℕ, ◌^◌, ◌<◌, ◌≤◌, true, List, length, map, take, drop, get_or, Some}
use Rattle.std.specs.Simd.Lanes.{mask_l}
use Rattle.text_parts.specs.Numerals.{is_digit}
use Rattle.text_parts.specs.Packed.{is_above_nine, less_zero}
use Rattle.text_parts.specs.Reading.{numeral_at}

-- a bit for each of some bytes in front, which is set where the byte is no digit
pub record AreMarks (text : List ℕ) (marks : ℕ) : Type 0 where
  pub count : ℕ
  pub few : count ≤ 64
  pub within : count ≤ length text
  pub bits : marks ≡ mask_l (map (λ byte. is_above_nine (less_zero byte)) (take count text))

-- so many digits are a number in front, behind which a byte stands
pub record IsNumeralInFront (text : List ℕ) (count value : ℕ) : Type 0 where
  pub first : is_digit (get_or text 0 0) ≡ true
  pub more : count < length text
  pub reads : numeral_at text ≡ Some (value, drop count text)
  pub small : value < 10 ^ 18
