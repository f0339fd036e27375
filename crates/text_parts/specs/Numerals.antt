-- Numbers in decimal digits, as the print formats of ftrace have them (ftrace.rst). Leading zeros are allowed.
use Rattle.std.specs.Prelude.{ℕ, ◌+◌, ◌-◌, ◌*◌, ◌^◌, ◌&&◌, Bool, List, nat_le, fold}
use Rattle.text_parts.specs.Pieces.{IsRunOf}

-- the bytes `0` to `9`
abbrev pub is_digit : ℕ → Bool
is_digit byte = nat_le 48 byte && nat_le byte 57

-- the number that digits stand for, the first digit the highest
abbrev pub value_of : List ℕ → ℕ
value_of digits = fold (λ value digit. value * 10 + (digit - 48)) 0 digits

-- a number that no range of this project reaches: larger values are read as this one
abbrev pub many : ℕ
many = 10 * 2 ^ 60

-- one or more digits
abbrev pub IsNumeral : List ℕ → Type 0
IsNumeral text = IsRunOf is_digit text
