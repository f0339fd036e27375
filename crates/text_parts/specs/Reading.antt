-- Reading from the front of a text: what a part takes, and what it leaves. Nothing here is to be believed: it is proved
-- to give the one reading that `Time`, and the relations of the crates above, state.
use Rattle.std.specs.Prelude.{◌≡◌, ℕ, ◌*◌, ◌==◌, Bool, List, [], ◌∷◌, codes, length, take_while, drop, min, Option}
use Rattle.std.specs.Prelude.{None, Some, if◌then◌else◌}
use Rattle.std.specs.List.{prefix_len}
use Rattle.text_parts.specs.Numerals.{is_digit, value_of, many}

-- a reader, and another at what it found
infixl 10 ◌>>=◌
abbrev pub ◌>>=◌ : {A B : Type 0} → Option A → (A → Option B) → Option B
(Some x) >>= f = f x
None >>= f = None

-- the first that is there
abbrev pub or_else : {A : Type 0} → Option A → Option A → Option A
or_else (Some x) later = Some x
or_else None later = later

-- what a function returned, seen by view, is what reading gives
abbrev pub Gives : {X Y : Type 0} → (X → Y) → Option X → Option Y → Type 0
Gives view (Some x) read = read ≡ Some (view x)
Gives view None read = read ≡ None

-- what was read, where nothing is left behind it
abbrev pub if_at_end : {A : Type 0} → List ℕ → A → Option A
if_at_end rest read = if length rest == 0 then Some read else None

-- what follows these bytes
unfoldable pub after_text : List ℕ → List ℕ → Option (List ℕ)
after_text [] text = Some text
after_text (byte ∷ front) [] = None
after_text (byte ∷ front) (first ∷ text) = if first == byte then after_text front text else None

-- what follows one or more bytes that pass the test
unfoldable pub after_run : (ℕ → Bool) → List ℕ → Option (List ℕ)
after_run test text = if prefix_len test text == 0 then None else Some (drop (prefix_len test text) text)

-- the value of the digits at the front
abbrev pub front_value : List ℕ → ℕ
front_value text = min (value_of (take_while is_digit text)) many

-- the value of one or more digits, and what follows them
unfoldable pub numeral_at : List ℕ → Option (ℕ × List ℕ)
numeral_at text = if prefix_len is_digit text == 0 then None
    else Some (front_value text, drop (prefix_len is_digit text) text)

-- the nanoseconds of so many digits behind the point
unfoldable pub nanoseconds_of : ℕ → ℕ → Option ℕ
nanoseconds_of digits value = if digits == 6 then Some (value * 1000) else (if digits == 9 then Some value else None)

-- the nanoseconds of a point and the digits behind it, and what follows them
unfoldable pub fraction_at : List ℕ → Option (ℕ × List ℕ)
fraction_at text = do
  fraction ← after_text (codes ".") text
  nanoseconds ← nanoseconds_of (prefix_len is_digit fraction) (front_value fraction)
  Some (nanoseconds, drop (prefix_len is_digit fraction) fraction)

-- seconds, nanoseconds, and what follows the time
unfoldable pub time_at : List ℕ → Option (ℕ × ℕ × List ℕ)
time_at text = do
  whole ← numeral_at text
  fraction ← after_text (codes ".") whole.1
  nanoseconds ← nanoseconds_of (prefix_len is_digit fraction) (front_value fraction)
  Some (whole.0, nanoseconds, drop (prefix_len is_digit fraction) fraction)
