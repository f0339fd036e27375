-- The spaces behind a processor, the word of flags where it is printed, and the whole seconds of the time, at the front
-- of a text; and how they are read by themselves, for what is remembered of a line. Nothing here is to be believed.
use Rattle.std.specs.Prelude.{◌≡◌, ℕ, ◌&&◌, ◌==◌, not, Bool, nat_lt, List, ◌++◌, min, Option, Some}
use Rattle.text_parts.specs.Numerals.{value_of, many, IsNumeral}
use Rattle.text_parts.specs.Pieces.{is_space, IsGap}
use Rattle.text_parts.specs.Reading.{◌>>=◌, or_else, after_run, numeral_at, if_at_end}
use Rattle.text_parts.specs.Unbroken.{IsUnbroken}
use Rattle.ftrace_line.specs.Head.{is_flag, IsFlags}

-- the bytes that are looked for in a word of flags: they are printed, and none is a space, a `:` or a line feed
abbrev pub is_mark : ℕ → Bool
is_mark byte = nat_lt 32 byte && not (byte == 58)

-- flags, where they are there, stand at the front of a text
pub record HasFlags (text rest : List ℕ) : Type 0 where
  pub flags : List ℕ
  pub form : IsFlags flags
  pub unbroken : IsUnbroken flags
  pub parts : text ≡ flags ++ rest

-- these are the seconds at the front of a text, and this follows them
pub record HasSeconds (text : List ℕ) (seconds : ℕ) (rest : List ℕ) : Type 0 where
  pub gap : List ℕ
  pub gap_form : IsGap gap
  pub flags : List ℕ
  pub flags_form : IsFlags flags
  pub unbroken : IsUnbroken flags
  pub digits : List ℕ
  pub digits_form : IsNumeral digits
  pub value_is : seconds ≡ min (value_of digits) many
  pub parts : text ≡ gap ++ (flags ++ (digits ++ rest))

-- what follows a word of flags and the spaces behind it
unfoldable pub after_flags : List ℕ → Option (List ℕ)
after_flags text = do
  gap ← after_run is_flag text
  after_run is_space gap

-- the seconds that stand by themselves, behind spaces and a word of flags or none
unfoldable pub seconds_in : List ℕ → Option ℕ
seconds_in bytes = do
  clock ← after_run is_space bytes
  stamp ← or_else (after_flags clock) (Some clock)
  whole ← numeral_at stamp
  if_at_end whole.1 whole.0
