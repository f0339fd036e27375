-- What the pages of a record's processors tell of its events (this project's profile): the words of replay_model's
-- Closing, of a list of pages and of one event.
use Rattle.std.specs.Prelude.{◌≡◌, ℕ, zero, suc, ◌<◌, true, Bool, Option, Some, None, List, [], ◌∷◌, ◌++◌, map}
use Rattle.cfs_model.specs.Limits.{no_line}
use Rattle.cfs_model.specs.Claimed.{Claimed}
use Rattle.replay_model.specs.Cause.{FaultCause}
use Rattle.replay_laws.specs.Telling.{IdlesBefore, FailsHere, SayNothing, IsCauseOf}
use Rattle.replay_model.specs.Roll.{named, BirthIsNew}
use Rattle.replay_model.specs.Tickets.{TicketsAgree}
use Rattle.replay_model.specs.Cut.{touches}
use Rattle.replay_model.specs.Roll.{roll_of}
use Rattle.replay_model.specs.Noted.{PageView}
use Rattle.queue_replay.specs.Replay.{ReplayView}
use Rattle.window_laws.specs.InWindow.{SayNothingInWindow}
use Rattle.cfs_model.specs.declared.task.Task.{Task}
use Rattle.replay_model.specs.declared.first_fault.FirstFault.{FirstFault}

-- a page that tells nothing
abbrev pub empty_view : PageView
empty_view = record { line = no_line; fault = None; left = []; came = []; births = []; deaths = []; tallies = [] }

-- the page of a processor, of some pages in the order of their numbers
abbrev pub view_at : List PageView → ℕ → PageView
view_at [] cpu = empty_view
view_at (page ∷ pages) zero = page
view_at (page ∷ pages) (suc cpu) = view_at pages cpu

-- the pages of some replays
abbrev pub pages_of : List ReplayView → List PageView
pages_of replays = map (λ replay. replay.page) replays

-- what is wrong, as the model sees it
abbrev pub cause_view : FirstFault → FaultCause
cause_view f = record { cpu = f.cpu; pid = f.pid; kind = f.kind }

-- the pages say nothing against what an event does
pub record AllowAct (pages : ℕ → PageView) (alive : ℕ → Bool) (event : Claimed) : Type 0 where
  pub no_fault : (cpu : ℕ) → touches cpu event ≡ true → ¬ FailsHere event (pages cpu).fault
  pub tickets : TicketsAgree pages event.entry.line event.entry.act
  pub birth : BirthIsNew alive event.entry.act

-- nor does any of them say that a processor had idled for too long before it
pub record Allow (pages : ℕ → PageView) (cpus : ℕ) (alive : ℕ → Bool) (event : Claimed) : Type 0 where
  pub no_idling : (cpu : ℕ) → cpu < cpus → ¬ IdlesBefore event (pages cpu).fault
  pub act : AllowAct pages alive event

-- the pages say nothing against the events before the one on this line, and this is the first thing that they say
-- against that one
pub record TellFault (pages : ℕ → PageView) (cpus : ℕ) (tasks : List Task) (events : List Claimed) (line : ℕ)
    (cause : FaultCause) : Type 0 where
  pub before : List Claimed
  pub event : Claimed
  pub rest : List Claimed
  pub whole : events ≡ before ++ event ∷ rest
  pub line_is : event.entry.line ≡ line
  pub nothing : SayNothing pages cpus tasks before
  pub why : IsCauseOf pages cpus (roll_of (named tasks) before) event cause

-- the same of a window's events, before which these pids are alive
pub record TellFaultFrom (pages : ℕ → PageView) (cpus : ℕ) (alive : ℕ → Bool) (events : List Claimed) (line : ℕ)
    (cause : FaultCause) : Type 0 where
  pub before : List Claimed
  pub event : Claimed
  pub rest : List Claimed
  pub whole : events ≡ before ++ event ∷ rest
  pub line_is : event.entry.line ≡ line
  pub nothing : SayNothingInWindow pages cpus alive before
  pub why : IsCauseOf pages cpus (roll_of alive before) event cause

-- what the pages tell of a window's events: nothing against them, or what they say first
abbrev pub TellFrom : (ℕ → PageView) → ℕ → (ℕ → Bool) → List Claimed → Option FirstFault → Type 0
TellFrom pages cpus alive events None = SayNothingInWindow pages cpus alive events
TellFrom pages cpus alive events (Some fault) = TellFaultFrom pages cpus alive events fault.line (cause_view fault)

-- what the pages tell of all events: nothing against them, or what they say first
abbrev pub Tell : (ℕ → PageView) → ℕ → List Task → List Claimed → Option FirstFault → Type 0
Tell pages cpus tasks events None = SayNothing pages cpus tasks events
Tell pages cpus tasks events (Some fault) = TellFault pages cpus tasks events fault.line (cause_view fault)
