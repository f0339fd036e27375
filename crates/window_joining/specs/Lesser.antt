-- A line that there may be, and a limit.
use Rattle.std.specs.Prelude.{ℕ, nat_lt, if◌then◌else◌, Option, Some, None}

-- the line, where it is above this one
abbrev pub above_limit : ℕ → Option ℕ → Option ℕ
above_limit limit None = None
above_limit limit (Some line) = if nat_lt line limit then Some line else None
