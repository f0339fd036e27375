-- How many pages a book has (this project's profile).
use Rattle.std.specs.Prelude.{ℕ, ◌+◌, Option, Some, None, List, [], ◌∷◌}
use Rattle.queue_replay.specs.Replay.{ReplayView}

-- the number of slots at which a page stands
abbrev pub filled : List (Option ReplayView) → ℕ
filled [] = 0
filled (None ∷ slots) = filled slots
filled (Some page ∷ slots) = filled slots + 1
