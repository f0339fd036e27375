-- A walk along a record's events (this project's profile).
use Rattle.std.specs.Prelude.{◌≡◌, ℕ, ◌<◌, ◌≤◌, ◌==◌, ◌&&◌, ◌≢◌, ◌⊎◌, Bool, if◌then◌else◌, is_none, Option, Some, None}
use Rattle.std.specs.Bool.{OnTrue}
use Rattle.std.specs.Prelude.{false, List, AllPairs, length, slice_index, take}
use Rattle.cfs_model.specs.Claimed.{Claimed}
use Rattle.cfs_model.specs.Lives.{begun_by, ended_by}
use Rattle.cfs_model.specs.declared.act.Act.{Act}
use Rattle.cfs_model.specs.declared.kind.Kind.TheVariants.{BornTwice, TicketUnequal}
use Rattle.replay_model.specs.Cause.{FaultCause}
use Rattle.replay_laws.specs.Telling.{FailsHere, IsPageCause}
use Rattle.replay_model.specs.Summary.{is_migration}
use Rattle.replay_model.specs.Tickets.{ticket_at}
use Rattle.replay_model.specs.Noted.{PageView}
use Rattle.replay_model.specs.declared.page.StepFault.{StepFault}
use Rattle.replay_model.specs.declared.page.Ticket.{Ticket}
use Rattle.ticket_book.specs.Idling.{NoneFirst}
use Rattle.ticket_book.specs.TicketIndices.{AreBelow}
use Rattle.ticket_book.specs.Told.{view_at}
use Rattle.replay_model.specs.declared.first_fault.FirstFault.{FirstFault}
use Rattle.ticket_book.specs.declared.walk.Walk.{Walk}

-- the lines of the tickets on each page never fall
pub record TicketsRise (pages : List PageView) : Type 0 where
  pub left : (cpu : ℕ) → AllPairs (λ t u. t.line ≤ u.line) (view_at pages cpu).left
  pub came : (cpu : ℕ) → AllPairs (λ t u. t.line ≤ u.line) (view_at pages cpu).came

-- an index in each processor's tickets: those before it are of lines below this one
pub record AreBehind (tickets : PageView → List Ticket) (pages : List PageView) (line : ℕ)
    (indices : List ℕ) : Type 0 where
  pub count : length indices ≡ length pages
  pub below : (cpu : ℕ) → cpu < length pages
      → AreBelow line (take (slice_index indices cpu) (tickets (view_at pages cpu)))

-- of the first so many processors none has a fault on its page
abbrev pub NoneFaulty : List PageView → ℕ → Type 0
NoneFaulty pages count = (cpu : ℕ) → cpu < count → (view_at pages cpu).fault ≡ None

-- the walk stands before an event on this line
pub record StandsAt (pages : List PageView) (line : ℕ) (walk : Walk) : Type 0 where
  pub faultless : OnTrue walk.faultless (NoneFaulty pages (length pages))
  pub deadline : NoneFirst pages walk.deadline (length pages)
  pub left : AreBehind (λ page. page.left) pages line walk.left
  pub came : AreBehind (λ page. page.came) pages line walk.came

-- what a page's fault says, where it is of a test that failed at this line
abbrev pub failed_on : ℕ → ℕ → Option StepFault → Option FirstFault
failed_on cpu line None = None
failed_on cpu line (Some fault) =
    if is_none fault.deadline && (fault.line == line)
    then Some (record { line = line; cpu = cpu; pid = fault.pid; kind = fault.kind })
    else None

-- what a birth of a pid that is alive says
abbrev pub born_twice_on : ℕ → ℕ → ℕ → Bool → Option FirstFault
born_twice_on cpu pid line alive =
    if alive then Some (record { line = line; cpu = cpu; pid = pid; kind = BornTwice }) else None

-- no task begins, ends or migrates with what an event does
pub record IsPlain (act : Act) : Type 0 where
  pub begun : begun_by act ≡ None
  pub ended : ended_by act ≡ None
  pub stays : is_migration act ≡ false

-- the pages say nothing against a migration
pub record AllowShift (pages : ℕ → PageView) (orig dest : ℕ) (event : Claimed) : Type 0 where
  pub leaves : ¬ FailsHere event (pages orig).fault
  pub comes : ¬ FailsHere event (pages dest).fault
  pub agree : ticket_at event.entry.line (pages orig).left ≡ ticket_at event.entry.line (pages dest).came

-- the first thing that they say against a migration
abbrev pub IsShiftCause : (ℕ → PageView) → ℕ → ℕ → ℕ → Claimed → FaultCause → Type 0
IsShiftCause pages orig dest pid event cause =
    IsPageCause event orig (pages orig) cause
    ⊎ ((¬ FailsHere event (pages orig).fault) × IsPageCause event dest (pages dest) cause)
    ⊎ ((¬ FailsHere event (pages orig).fault) × (¬ FailsHere event (pages dest).fault)
    × (ticket_at event.entry.line (pages orig).left ≢ ticket_at event.entry.line (pages dest).came)
    × (cause ≡ record { cpu = dest; pid = pid; kind = TicketUnequal }))
