-- What a record of some processors keeps (this project's profile).
use Rattle.std.specs.Prelude.{ℕ, IfSome, ⊤, [], ◌∷◌, ◌<◌, ◌≤◌, ℤ, List}
use Rattle.std.specs.List.{AllByRecursion}
use Rattle.cfs_model.specs.Charge.{IsInRange}
use Rattle.cfs_model.specs.Claimed.{Claimed}
use Rattle.cfs_model.specs.Touch.{touched}
use Rattle.cfs_model.specs.Order.{IsStart}
use Rattle.cfs_model.specs.declared.task.Task.{Task}

-- an event's claim, if it has one, is in range
abbrev pub ClaimInRange : Claimed → Type 0
ClaimInRange event = IfSome event.claim (λ claim. IsInRange claim.v)

-- an event's told charge, if it has one, is in range
abbrev pub ChargeInRange : Claimed → Type 0
ChargeInRange event = IfSome event.charge (λ charge. IsInRange charge.v)

-- the times of the events never fall, and none is before this time
abbrev pub TimesRise : ℕ → List Claimed → Type 0
TimesRise time [] = ⊤
TimesRise time (event ∷ events) = (time ≤ event.entry.time) × TimesRise event.entry.time events

-- the lines of the events rise from above this one
abbrev pub LinesRise : ℕ → List Claimed → Type 0
LinesRise line [] = ⊤
LinesRise line (event ∷ events) = (line < event.entry.line) × LinesRise event.entry.line events

-- what a record of some processors keeps
pub record IsRecord (start : ℕ) (floors : List ℤ) (tasks : List Task) (events : List Claimed) (cpus : ℕ) : Type 0 where
  pub is_start : IsStart floors tasks
  pub tasks_within : AllByRecursion (λ t. t.cpu < cpus) tasks
  pub events_within : AllByRecursion (λ event. AllByRecursion (λ cpu. cpu < cpus) (touched event.entry.act)) events
  pub claims_in_range : AllByRecursion ClaimInRange events
  pub charges_in_range : AllByRecursion ChargeInRange events
  pub times_rise : TimesRise start events
  pub lines_rise : LinesRise 0 events
