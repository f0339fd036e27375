-- What the pages of all processors say against an event, in the order of what can be wrong with it (this project's
-- profile).
use Rattle.std.specs.Prelude.{◌≡◌, ◌≢◌, ℕ, ◌<◌, ◌⊎◌, Bool, true, Option, Some, None, List}
use Rattle.std.specs.List.{AllByRecursion}
use Rattle.cfs_model.specs.Claimed.{Claimed}
use Rattle.replay_model.specs.Cut.{touches}
use Rattle.replay_model.specs.Noted.{PageView}
use Rattle.replay_model.specs.Tickets.{TicketsAgree, ticket_at}
use Rattle.replay_model.specs.Roll.{BirthsAreNew, named}
use Rattle.replay_model.specs.Cause.{FaultCause}
use Rattle.cfs_model.specs.declared.act.Act.{Act}
use Rattle.cfs_model.specs.declared.act.Act.TheVariants.{Switch, Wake, Born, Shift}
use Rattle.cfs_model.specs.declared.kind.Kind.TheVariants.{IdleTooLong, TicketUnequal, BornTwice}
use Rattle.cfs_model.specs.declared.task.Task.{Task}
use Rattle.replay_model.specs.declared.page.StepFault.{StepFault}

-- the fault is of a processor that had idled for too long before this event, whatever step noticed it
abbrev pub IdlesBefore : Claimed → Option StepFault → Type 0
IdlesBefore event None = ⊥
IdlesBefore event (Some fault) = (deadline : ℕ) × (fault.deadline ≡ Some deadline) × (deadline < event.entry.time)

-- the fault is of a test that failed at this event's line
abbrev pub FailsHere : Claimed → Option StepFault → Type 0
FailsHere event None = ⊥
FailsHere event (Some fault) = (fault.deadline ≡ None) × (fault.line ≡ event.entry.line)

-- the fault of a processor's page, if there is one, isn't due at any of these events
abbrev pub ComesAfter : List Claimed → ℕ → Option StepFault → Type 0
ComesAfter events cpu fault =
    AllByRecursion (λ event. (¬ IdlesBefore event fault) × (touches cpu event ≡ true → ¬ FailsHere event fault)) events

-- the page's fault is of a test that failed at this event, and it is this cause
pub record IsPageCause (event : Claimed) (cpu : ℕ) (page : PageView) (cause : FaultCause) : Type 0 where
  pub fault : StepFault
  pub is_fault : page.fault ≡ Some fault
  pub here : FailsHere event (Some fault)
  pub is : cause ≡ record { cpu = cpu; pid = fault.pid; kind = fault.kind }

-- what the pages say is wrong with what the event does: a test that failed at it, of a migration first at its origin;
-- then tickets that differ, or a birth of a pid that is alive by the roll of births and ends
abbrev pub IsActCauseOf : (ℕ → PageView) → (ℕ → Bool) → Claimed → Act → FaultCause → Type 0
IsActCauseOf pages alive event (Switch cpu prev prev_nice way next next_nice) cause =
    IsPageCause event cpu (pages cpu) cause
IsActCauseOf pages alive event (Wake cpu pid nice) cause = IsPageCause event cpu (pages cpu) cause
IsActCauseOf pages alive event (Born cpu pid nice) cause =
    IsPageCause event cpu (pages cpu) cause
    ⊎ ((¬ FailsHere event (pages cpu).fault) × (alive pid ≡ true)
    × (cause ≡ record { cpu = cpu; pid = pid; kind = BornTwice }))
IsActCauseOf pages alive event (Shift orig dest pid nice) cause =
    IsPageCause event orig (pages orig) cause
    ⊎ ((¬ FailsHere event (pages orig).fault) × IsPageCause event dest (pages dest) cause)
    ⊎ ((¬ FailsHere event (pages orig).fault) × (¬ FailsHere event (pages dest).fault)
    × (ticket_at event.entry.line (pages orig).left ≢ ticket_at event.entry.line (pages dest).came)
    × (cause ≡ record { cpu = dest; pid = pid; kind = TicketUnequal }))

-- the lowest processor whose page says that it had idled for too long before this event
pub record IsIdlingCauseOf (pages : ℕ → PageView) (cpus : ℕ) (event : Claimed) (cause : FaultCause) : Type 0 where
  pub within : cause.cpu < cpus
  pub idles : IdlesBefore event (pages cause.cpu).fault
  pub lowest : (other : ℕ) → other < cause.cpu → ¬ IdlesBefore event (pages other).fault
  pub pid : cause.pid ≡ 0
  pub kind : cause.kind ≡ IdleTooLong

-- the first thing that the pages say is wrong with an event, of those below a number of processors
abbrev pub IsCauseOf : (ℕ → PageView) → ℕ → (ℕ → Bool) → Claimed → FaultCause → Type 0
IsCauseOf pages cpus alive event cause =
    IsIdlingCauseOf pages cpus event cause
    ⊎ (((cpu : ℕ) → cpu < cpus → ¬ IdlesBefore event (pages cpu).fault)
    × IsActCauseOf pages alive event event.entry.act cause)

-- the pages say nothing against these events: no fault is due at them, the tickets of each migration agree, and each
-- birth is new
pub record SayNothing (pages : ℕ → PageView) (cpus : ℕ) (tasks : List Task) (events : List Claimed) : Type 0 where
  pub no_fault : (cpu : ℕ) → cpu < cpus → ComesAfter events cpu (pages cpu).fault
  pub tickets : AllByRecursion (λ event. TicketsAgree pages event.entry.line event.entry.act) events
  pub births : BirthsAreNew (named tasks) events
