-- Bytes that are read eight at a time. Nothing here is to be believed.
use Rattle.std.specs.Prelude.{◌≡◌, ℕ, ◌+◌, ◌*◌, ◌%◌, ◌<◌, ◌≤◌, Bool, true, false, List, ◌++◌, nat_lt, take, drop}
use Rattle.std.specs.Prelude.{get_or}
use Rattle.text_parts.specs.Numerals.{is_digit, value_of, IsNumeral}
use Rattle.text_parts.specs.Pieces.{IsGap}

-- a byte less that of the digit 0: the value of a digit, and more than 9 where the byte is none
abbrev pub less_zero : ℕ → ℕ
less_zero byte = (byte + 208) % 256

abbrev pub is_above_nine : ℕ → Bool
is_above_nine digit = nat_lt 9 digit

-- the value of eight digits that are the bytes of a word
abbrev pub Joins : ℕ → ℕ → Type 0
Joins word value =
    (a b c d e f g h : ℕ) → a ≤ 9 → b ≤ 9 → c ≤ 9 → d ≤ 9 → e ≤ 9 → f ≤ 9 → g ≤ 9 → h ≤ 9
    → word ≡ a + 256 * (b + 256 * (c + 256 * (d + 256 * (e + 256 * (f + 256 * (g + 256 * h))))))
    → value ≡ 10000000 * a + 1000000 * b + 100000 * c + 10000 * d + 1000 * e + 100 * f + 10 * g + h

-- so many digits in front, up to eight, and their value
pub record BeginsWithDigits (text : List ℕ) (count value : ℕ) : Type 0 where
  pub few : count ≤ 8
  pub passed : (k : ℕ) → k < count → is_digit (get_or text k 0) ≡ true
  pub stops : count < 8 → is_digit (get_or text count 0) ≡ false
  pub value_is : value ≡ value_of (take count text)

-- so many bytes in front pass a test, up to eight
pub record BeginsWithRun (test : ℕ → Bool) (text : List ℕ) (count : ℕ) : Type 0 where
  pub few : count ≤ 8
  pub passed : (k : ℕ) → k < count → test (get_or text k 0) ≡ true
  pub stops : count < 8 → test (get_or text count 0) ≡ false

-- the first eight bytes are digits and then spaces
pub record BeginsWithColumn (text : List ℕ) : Type 0 where
  pub digits : List ℕ
  pub form : IsNumeral digits
  pub gap : List ℕ
  pub gap_form : IsGap gap
  pub parts : text ≡ digits ++ (gap ++ drop 8 text)
