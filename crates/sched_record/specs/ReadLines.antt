-- How far the reading of a trace's lines has come (this project's profile).
use Rattle.std.specs.Prelude.{◌≡◌, ℕ, ◌+◌, ◌≤◌, List, [], ◌∷◌, ◌++◌, length, ◌⊎◌, All}
use Rattle.cfs_model.specs.declared.act.Entry.{Entry}
use Rattle.sched_record.specs.Kept.{AreInOrder}
use Rattle.sched_record.specs.Trace.{AreEventsOf}

-- a number is the time of the last event, and 0 before the first
abbrev pub IsLastTime : ℕ → List Entry → Type 0
IsLastTime last events =
    ((last ≡ 0) × (events ≡ [])) ⊎ ((before : List Entry) × (event : Entry) × (events ≡ before ++ event ∷ [])
    × (last ≡ event.time))

-- these lines are so many, none of them is bad, and these are their events and the time of the last one
pub record AreRead (lines : List (List ℕ)) (count last : ℕ) (events : List Entry) : Type 0 where
  pub good : AreEventsOf lines events
  pub counted : count ≡ length lines
  pub last_is : IsLastTime last events

-- events of lines up to this number, whose times are at most this one
pub record AreKept (events : List Entry) (count last : ℕ) : Type 0 where
  pub in_order : AreInOrder events
  pub lines : All (λ event. event.line ≤ count) events
  pub times : All (λ event. event.time ≤ last) events

-- an event on a line that stands so many further down
abbrev pub shifted : ℕ → Entry → Entry
shifted count event = record { line = event.line + count; time = event.time; act = event.act }
