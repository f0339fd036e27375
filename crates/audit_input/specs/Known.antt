-- What is known of the bytes of readers and writers, and how their calls are counted (this project's profile).
use Rattle.std.specs.Prelude.{◌≡◌, ℕ, ◌+◌, ◌-◌, ◌^◌, ◌⊎◌, min, List, length, nat_lt, ◌==◌, ◌&&◌, ⊤, Option, None}
use Rattle.std.specs.Prelude.{Some, Result, Ok, Err, Bool, true, false}

-- where bytes are known, they are these
abbrev pub Agrees : Option (List ℕ) → List ℕ → Type 0
Agrees None bytes = ⊤
Agrees (Some known) bytes = known ≡ bytes

-- one call more, in a count of 64 bits that stays at its greatest value
abbrev pub one_more : ℕ → ℕ
one_more calls = min (calls + 1) (2 ^ 64 - 1)

-- the most reads that are made on one input
abbrev pub most_reads : ℕ
most_reads = 2 ^ 32

-- a read failed, or the most reads were made
abbrev pub IsCutShort : Bool → ℕ → Type 0
IsCutShort has_failed calls = (has_failed ≡ true) ⊎ (calls ≡ most_reads)

-- the read gave no byte where there was room for some: the end
abbrev pub gives_nothing : {E : Type 0} → Result ℕ E → List ℕ → Bool
gives_nothing (Ok count) room = (count == 0) && nat_lt 0 (length room)
gives_nothing (Err failed) room = false
