-- The last event of a window (this project's profile).
use Rattle.std.specs.Prelude.{◌≡◌, ℕ, ⊤, List, [], ◌∷◌}
use Rattle.cfs_model.specs.Claimed.{Claimed}
use Rattle.replay_model.specs.Cut.{last_line_after, last_time_of}

-- this is the time of the last of some events, and its line; where there is none, any are
abbrev pub IsLastOf : List Claimed → ℕ → ℕ → Type 0
IsLastOf [] time line = ⊤
IsLastOf (event ∷ events) time line =
    (last_time_of event.entry.time events ≡ time) × (last_line_after event.entry.line events ≡ line)
