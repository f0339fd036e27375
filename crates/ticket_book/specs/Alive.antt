-- Who is alive, as contracts see it (this project's profile).
use Rattle.std.specs.Prelude.{ℕ, Bool, false, List, slice_index_or}
use Rattle.ticket_book.specs.declared.alive.Alive.{Alive}

-- what a list says of each pid, by its number, as a function: whether the pid lives
unfoldable pub lives_in : List Bool → ℕ → Bool
lives_in lives pid = slice_index_or lives pid false

-- whether a pid is alive
abbrev pub alive_view : Alive → ℕ → Bool
alive_view a = lives_in a.lives.items
