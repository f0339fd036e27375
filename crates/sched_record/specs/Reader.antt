-- A trace that is read some lines at a time (this project's profile: what is read in parts means what the whole means).
use Rattle.std.specs.Prelude.{◌≡◌, ℕ, ◌+◌, ◌≤◌, List, ◌++◌, IsNone, MatchOption}
use Rattle.cfs_model.specs.Limits.{greatest_line}
use Rattle.sched_record.specs.Join.{BeginsInTime}
use Rattle.sched_record.specs.declared.trace_reader.TraceReader.{TraceReader}
use Rattle.sched_record.specs.ReadLines.{AreRead}
use Rattle.sched_record.specs.Trace.{IsFirstBadTraceLine}

-- a reader has read these lines: it keeps their events, or the first bad one and why it is bad
abbrev pub HasRead : TraceReader → List (List ℕ) → Type 0
HasRead reader lines =
    MatchOption reader.bad (AreRead lines reader.count reader.last reader.entries.items)
    (λ bad. IsFirstBadTraceLine lines bad.line bad.cause)

-- a reader has read these lines and some of those that follow, the first ones
abbrev pub HasReadFront : TraceReader → List (List ℕ) → List (List ℕ) → Type 0
HasReadFront reader lines more =
    (front : List (List ℕ)) × (rest : List (List ℕ)) × (more ≡ front ++ rest) × HasRead reader (lines ++ front)

-- what another reader has read by itself stands behind what this one has, but for the numbers of its lines
pub record TakesOn (reader later : TraceReader) : Type 0 where
  pub good : IsNone reader.bad
  pub good_later : IsNone later.bad
  pub few : reader.count + later.count ≤ greatest_line
  pub in_time : BeginsInTime reader.last later.entries.items
