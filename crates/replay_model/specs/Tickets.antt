-- The tickets of a migration, as the pages of its two ends have them (this project's profile).
use Rattle.std.specs.Prelude.{◌≡◌, ℕ, ◌==◌, Option, ⊤, List, find}
use Rattle.replay_model.specs.Noted.{PageView}
use Rattle.cfs_model.specs.declared.act.Act.{Act}
use Rattle.cfs_model.specs.declared.act.Act.TheVariants.{Shift}
use Rattle.replay_model.specs.declared.page.Ticket.{Ticket}

-- the ticket of a line
abbrev pub ticket_at : ℕ → List Ticket → Option Ticket
ticket_at line tickets = find (λ t. t.line == line) tickets

-- the two tickets of a migration are equal: the one on its origin's page and the one on its destination's
abbrev pub TicketsAgree : (ℕ → PageView) → ℕ → Act → Type 0
TicketsAgree pages line (Shift orig dest pid nice) = ticket_at line (pages orig).left ≡ ticket_at line (pages dest).came
TicketsAgree pages line _ = ⊤
