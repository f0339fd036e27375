-- What a writer takes (this project's profile).
use Rattle.std.specs.Prelude.{◌≡◌, ℕ, ◌==◌, ◌&&◌, List, ◌++◌, length, nat_lt, Option, Result, Ok, Err, Bool, true}
use Rattle.std.specs.Io.KnownBytes.{Appends}

-- the write failed, or took no byte of some
abbrev pub takes_nothing : {E : Type 0} → Result ℕ E → List ℕ → Bool
takes_nothing (Ok count) bytes = (count == 0) && nat_lt 0 (length bytes)
takes_nothing (Err failed) bytes = true

-- known bytes grow by a front of these
abbrev pub AppendsFront : Option (List ℕ) → Option (List ℕ) → List ℕ → Type 0
AppendsFront old new bytes = (front : List ℕ) × (rest : List ℕ) × (bytes ≡ front ++ rest) × Appends old new front
