-- Places in lists of tickets (this project's profile).
use Rattle.std.specs.Prelude.{◌≡◌, ℕ, ◌<◌, ◌==◌, if◌then◌else◌, Option, Some, None, List, All, slice_set, take}
use Rattle.replay_model.specs.declared.page.Ticket.{Ticket}

-- the tickets are of lines below this one
abbrev pub AreBelow : ℕ → List Ticket → Type 0
AreBelow line tickets = All (λ t. t.line < line) tickets

-- one of the indices moves, and past tickets of lines below this one alone
pub record PassesTo (cpu line : ℕ) (tickets : List Ticket) (before after : List ℕ) : Type 0 where
  pub index : ℕ
  pub moved : after ≡ slice_set before cpu index
  pub passed : AreBelow line (take index tickets)

-- a ticket, where it is of this line
abbrev pub if_of_line : ℕ → Option Ticket → Option Ticket
if_of_line line None = None
if_of_line line (Some t) = if t.line == line then Some t else None
