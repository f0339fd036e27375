-- What amount of time a word says (this project's command lines): a decimal number times its unit, where that is a
-- whole number of nanoseconds. A number above `many` is read as `many`, which is above the greatest setting too.
use Rattle.std.specs.Prelude.{◌≡◌, ℕ, ◌+◌, ◌-◌, ◌*◌, ◌^◌, ◌<◌, ◌≤◌, ◌==◌, Bool, List, [], codes, length, take, drop}
use Rattle.std.specs.Prelude.{Option, None, Some, Result, Ok, Err, unwrap_or, nat_le, if◌then◌else◌}
use Rattle.std.specs.List.{list_all, prefix_len, take_while}
use Rattle.std.specs.Option.{option_map_or}
use Rattle.cfs_model.specs.Limits.{greatest_setting}
use Rattle.text_parts.specs.Numerals.{is_digit}
use Rattle.text_parts.specs.Reading.{◌>>=◌, or_else, if_at_end, after_text, front_value, numeral_at}
use Rattle.amount_words.specs.declared.amount.Amount.{Amount}
use Rattle.amount_words.specs.declared.fault.AmountFault.{AmountFault}
use Rattle.amount_words.specs.declared.fault.AmountFault.TheVariants.{Unread, Beyond}

-- ---- units: the zeros of how many nanoseconds one of it is, where that is a 1 and zeros behind it

-- the greatest number of zeros, those of the greatest setting
abbrev pub most_zeros : ℕ
most_zeros = 12

-- the text is this unit's name
abbrev pub named : List ℕ → ℕ → List ℕ → Option ℕ
named name zeros text = do
  rest ← after_text name text
  if_at_end rest zeros

-- `e` and the number of zeros
abbrev pub power_of : List ℕ → Option ℕ
power_of text = do
  digits ← after_text (codes "e") text
  power ← numeral_at digits
  zeros ← if_at_end power.1 power.0
  if nat_le zeros most_zeros then Some zeros else None

-- no unit, which is nanoseconds, or one of these
unfoldable pub zeros_of : List ℕ → Option ℕ
zeros_of text = or_else (named [] 0 text) (or_else (named (codes "ns") 0 text) (or_else (named (codes "us") 3 text)
    (or_else (named (codes "ms") 6 text) (or_else (named (codes "s") 9 text) (power_of text)))))

-- ---- numbers

-- one or more digits in front, and what follows them
unfoldable pub digits_at : List ℕ → Option (List ℕ × List ℕ)
digits_at text = if prefix_len is_digit text == 0 then None
    else Some (take_while is_digit text, drop (prefix_len is_digit text) text)

-- the digits behind a point, where there is one, and what follows them
unfoldable pub fraction_at : List ℕ → Option (List ℕ × List ℕ)
fraction_at text = option_map_or digits_at (after_text (codes ".") text) (Some ([], text))

-- the digit 0
abbrev pub is_zero : ℕ → Bool
is_zero byte = byte == 48

-- the nanoseconds that digits behind the point are, of a unit with so many zeros: the point moves behind as many
-- digits, filled up with zeros; what stands behind it then is zeros alone, or it is no whole number
unfoldable pub part_of : ℕ → List ℕ → Option ℕ
part_of zeros digits = if list_all is_zero (drop zeros digits)
    then Some (front_value (take zeros digits) * 10 ^ (zeros - length digits)) else None

-- the nanoseconds of a word: a plus or none, digits, a point and digits or none, and the unit
unfoldable pub amount_of : List ℕ → Option ℕ
amount_of word = do
  whole ← numeral_at (unwrap_or (after_text (codes "+") word) word)
  fraction ← fraction_at whole.1
  zeros ← zeros_of fraction.1
  part ← part_of zeros fraction.0
  Some (whole.0 * 10 ^ zeros + part)

-- what is answered of an amount, or of none
abbrev pub Answers : Option ℕ → Result Amount AmountFault → Type 0
Answers (Some n) (Ok amount) = (amount.nanoseconds ≡ n) × (n ≤ greatest_setting)
Answers (Some n) (Err (Beyond m)) = (m ≡ n) × (greatest_setting < n)
Answers None (Err Unread) = Unit {0}
Answers _ _ = ⊥
