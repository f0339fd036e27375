-- What joining a trace and a companion gives (this project's profile).
use Rattle.std.specs.Prelude.{◌≡◌, ℕ, ◌<◌, ◌≤◌, IsTrue, List, [], ◌∷◌, ◌++◌, ◌⊎◌, ◌==◌, Bool, false, ◌&&◌, Any, All}
use Rattle.std.specs.Prelude.{Option, Some, None, Result, Ok, Err}
use Rattle.std.specs.List.{list_any}
use Rattle.cfs_model.specs.Limits.{no_line}
use Rattle.cfs_model.specs.declared.act.Act.{Act}
use Rattle.cfs_model.specs.declared.act.Act.TheVariants.{Born}
use Rattle.cfs_model.specs.declared.act.Entry.{Entry}
use Rattle.cfs_model.specs.declared.claim.Claim.{Claim}
use Rattle.cfs_model.specs.declared.idle_line.IdleLine.{IdleLine}
use Rattle.cfs_model.specs.declared.nice_line.NiceLine.{NiceLine}
use Rattle.cfs_model.specs.declared.charge_line.ChargeLine.{ChargeLine}
use Rattle.cfs_model.specs.Touch.{touched}
use Rattle.companion_file.specs.Companion.{CompanionView}
use Rattle.sched_record.specs.declared.joining.JoinCause.{JoinCause}
use Rattle.sched_record.specs.declared.joining.JoinCause.TheVariants.{CpuOutside, StartLate, ClaimNoEvent}
use Rattle.sched_record.specs.RecordView.{RecordView}

-- an event touches only processors below the count
abbrev pub IsInside : ℕ → Entry → Type 0
IsInside cpus event = All (λ cpu. cpu < cpus) (touched event.act)

-- whether one of these events stands on this line
abbrev pub is_event_line : List Entry → ℕ → Bool
is_event_line events line = list_any (λ event. event.line == line) events

-- whether what an event does is the birth of this pid
abbrev pub is_birth_of : ℕ → Act → Bool
is_birth_of pid (Born cpu born nice) = born == pid
is_birth_of pid _ = false

-- whether one of these events is a birth of this pid and stands on this line
abbrev pub is_birth_line : List Entry → ℕ → ℕ → Bool
is_birth_line events line pid = list_any (λ event. (event.line == line) && is_birth_of pid event.act) events

-- an idle line is of the start, or stands on the line of a birth of its pid
abbrev pub NamesBirth : List Entry → IdleLine → Type 0
NamesBirth events idle = no_line < idle.line → IsTrue (is_birth_line events idle.line idle.pid)

-- the first event that touches a processor which the companion doesn't have, by its line
pub record IsFirstOutside (cpus : ℕ) (events : List Entry) (line : ℕ) : Type 0 where
  pub before : List Entry
  pub event : Entry
  pub after : List Entry
  pub parts : events ≡ before ++ event ∷ after
  pub inside : All (IsInside cpus) before
  pub outside : Any (λ cpu. cpus ≤ cpu) (touched event.act)
  pub indexed : line ≡ event.line

-- the first event, by its line, where it comes before the start
pub record IsBeforeStart (start : ℕ) (events : List Entry) (line : ℕ) : Type 0 where
  pub event : Entry
  pub after : List Entry
  pub parts : events ≡ event ∷ after
  pub early : event.time < start
  pub indexed : line ≡ event.line

-- the first event, if any, doesn't come before the start
abbrev pub BeginsInTime : ℕ → List Entry → Type 0
BeginsInTime start [] = Unit {0}
BeginsInTime start (event ∷ after) = start ≤ event.time

-- a claim stands on the line, which is no event's
abbrev pub HasStrayClaim : List Entry → List Claim → ℕ → Type 0
HasStrayClaim events claims line = Any (λ claim. claim.line ≡ line) claims × (¬ IsTrue (is_event_line events line))

-- a change of a nice value stands on the line, which is no event's
abbrev pub HasStrayNice : List Entry → List NiceLine → ℕ → Type 0
HasStrayNice events nices line = Any (λ change. change.line ≡ line) nices × (¬ IsTrue (is_event_line events line))

-- an idle line of a task that is born stands on the line, on which no birth of its pid stands
abbrev pub HasStrayIdle : List Entry → List IdleLine → ℕ → Type 0
HasStrayIdle events idles line = Any (λ idle. (idle.line ≡ line) × (¬ NamesBirth events idle)) idles

-- a charge is told on the line, which is no event's
abbrev pub HasStrayCharge : List Entry → List ChargeLine → ℕ → Type 0
HasStrayCharge events charges line = Any (λ charge. charge.line ≡ line) charges × (¬ IsTrue (is_event_line events line))

-- one of these does
abbrev pub IsStray : List Entry → CompanionView → ℕ → Type 0
IsStray events companion line =
    HasStrayClaim events companion.claims line ⊎ HasStrayNice events companion.nices line
    ⊎ HasStrayIdle events companion.idles line ⊎ HasStrayCharge events companion.charges line

-- the least number of which this holds, if there is one
abbrev pub IsLeastOf : (ℕ → Type 0) → Option ℕ → Type 0
IsLeastOf P None = (n : ℕ) → ¬ P n
IsLeastOf P (Some n) = P n × ((m : ℕ) → P m → n ≤ m)

-- the least line on which a claim, a change of a nice value or a charge stands that is no event's line, or an idle line
-- with no birth of its pid
abbrev pub IsFirstStray : List Entry → CompanionView → ℕ → Type 0
IsFirstStray events companion line = IsLeastOf (IsStray events companion) (Some line)

-- why a trace and a companion don't go together, with the line in the trace: each test goes over the whole, and
-- comes only where the one before it found nothing
abbrev pub Refuses : List Entry → CompanionView → ℕ → JoinCause → Type 0
Refuses events companion line CpuOutside = IsFirstOutside companion.cpus events line
Refuses events companion line StartLate =
    All (IsInside companion.cpus) events × IsBeforeStart companion.start events line
Refuses events companion line ClaimNoEvent =
    All (IsInside companion.cpus) events × BeginsInTime companion.start events × IsFirstStray events companion line

-- a trace and a companion go together
pub record GoTogether (events : List Entry) (companion : CompanionView) : Type 0 where
  pub inside : All (IsInside companion.cpus) events
  pub in_time : BeginsInTime companion.start events
  pub claimed : All (λ claim. IsTrue (is_event_line events claim.line)) companion.claims
  pub reniced : All (λ change. IsTrue (is_event_line events change.line)) companion.nices
  pub born : All (NamesBirth events) companion.idles
  pub charged : All (λ charge. IsTrue (is_event_line events charge.line)) companion.charges

-- the record of a trace's events and a companion: all of both
abbrev pub joined_record : List Entry → CompanionView → RecordView
joined_record events c = record {
  cpus = c.cpus;
  start = c.start;
  floors = c.floors;
  tasks = c.tasks;
  events = events;
  claims = c.claims;
  nices = c.nices;
  idles = c.idles;
  charges = c.charges;
}

-- joining gives the record of both, or the first reason why they don't go together
abbrev pub RecordAnswer : List Entry → CompanionView → Result RecordView (ℕ × JoinCause) → Type 0
RecordAnswer events companion (Ok r) = GoTogether events companion × (r ≡ joined_record events companion)
RecordAnswer events companion (Err fault) = Refuses events companion fault.0 fault.1
