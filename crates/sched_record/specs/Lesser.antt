-- The lesser of two numbers, of which each may be wanting.
use Rattle.std.specs.Prelude.{ℕ, min, Option, Some, None}

-- the lesser of the numbers that there are
abbrev pub lesser_of : Option ℕ → Option ℕ → Option ℕ
lesser_of None b = b
lesser_of (Some a) None = Some a
lesser_of (Some a) (Some b) = Some (min a b)
