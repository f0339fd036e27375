-- The head of an event's line in ftrace's plain format (ftrace.rst): the task's name in sixteen columns, its pid, the
-- column of thread groups where it is printed, the processor, the word of flags where it is printed, and the time.
use Rattle.std.specs.Prelude.{◌≡◌, ℕ, ◌≤◌, ◌⊎◌, ◌||◌, ◌==◌, not, Bool, List, [], ◌∷◌, codes, length}
use Rattle.text_parts.specs.Numerals.{is_digit, value_of, IsNumeral}
use Rattle.text_parts.specs.Pieces.{IsRunOf, joined, is_space, IsGap}
use Rattle.text_parts.specs.Time.{IsTime}

-- the bytes of the column of thread groups: digits, and spaces or `-` where the group isn't known
abbrev pub is_group_byte : ℕ → Bool
is_group_byte byte = is_digit byte || (is_space byte || byte == 45)

-- the column of thread groups, in round brackets, where it is printed
abbrev pub IsThreadGroup : List ℕ → Type 0
IsThreadGroup text =
    (text ≡ [])
    ⊎ ((group gap : List ℕ) × IsRunOf is_group_byte group × IsGap gap
    × (text ≡ joined (codes "(" ∷ group ∷ codes ")" ∷ gap ∷ [])))

-- the bytes of a word of flags: all but spaces and `:`
abbrev pub is_flag : ℕ → Bool
is_flag byte = not (is_space byte || byte == 58)

-- the word of flags, where it is printed
abbrev pub IsFlags : List ℕ → Type 0
IsFlags text =
    (text ≡ [])
    ⊎ ((flags gap : List ℕ) × IsRunOf is_flag flags × IsGap gap × (text ≡ joined (flags ∷ gap ∷ [])))

-- the line is a head with this processor and time, and then the event's text
pub record IsHead (line : List ℕ) (cpu seconds nanoseconds : ℕ) (text : List ℕ) : Type 0 where
  pub name : List ℕ
  pub name_width : length name ≡ 15
  pub pid : List ℕ
  pub pid_form : IsNumeral pid
  pub pid_gap : List ℕ
  pub pid_gap_form : IsGap pid_gap
  pub group : List ℕ
  pub group_form : IsThreadGroup group
  pub processor : List ℕ
  pub processor_form : IsNumeral processor
  pub processor_width : 3 ≤ length processor
  pub processor_value : cpu ≡ value_of processor
  pub processor_gap : List ℕ
  pub processor_gap_form : IsGap processor_gap
  pub flags : List ℕ
  pub flags_form : IsFlags flags
  pub time : List ℕ
  pub time_form : IsTime time seconds nanoseconds
  pub whole : line ≡ joined (
      codes " " ∷ name ∷ codes "-" ∷ pid ∷ pid_gap ∷ group ∷
      codes "[" ∷ processor ∷ codes "]" ∷ processor_gap ∷ flags ∷ time ∷ codes ": " ∷ text ∷ [])
