-- The lines of a processor's steps: above a line where those of the events are, and below one.
use Rattle.std.proofs.Common.{ℕ, ◌<◌, ◌≤◌, Bool, true, false, cond, List, [], ◌∷◌, ◌++◌, map, filter, arith}
use Rattle.std.specs.List.{AllByRecursion}
use Rattle.cfs_model.specs.Claimed.{Claimed}
use Rattle.replay_model.specs.Cut.{touches, steps_at}
use Rattle.replay_model.specs.StepAt.{step_at}
use Rattle.replay_model.specs.Record.{LinesRise}
use Rattle.replay_model.specs.declared.step.Step.{Step}

pub rise_from : (a b : ℕ) (events : List Claimed) → LinesRise a events → b ≤ a → LinesRise b events
rise_from a b [] h k = tt
rise_from a b (event ∷ events) h k = ((let l : a < event.entry.line = h.0 in omega arith), h.1)

-- what holds of the lines of events holds of those of a processor's steps
lines_at : (Is : ℕ → Type 0) (cpu : ℕ) (events : List Claimed)
    → AllByRecursion (λ (event : Claimed). Is event.entry.line) events
    → AllByRecursion (λ (step : Step). Is step.line) (steps_at cpu events)
lines_at Is cpu [] h = tt
lines_at Is cpu (event ∷ events) h = go (touches cpu event) (lines_at Is cpu events h.1)
  where
    go : (b : Bool) → AllByRecursion (λ (step : Step). Is step.line) (steps_at cpu events)
        → AllByRecursion (λ (step : Step). Is step.line)
        (map (step_at cpu) (cond b (event ∷ filter (touches cpu) events) (filter (touches cpu) events)))
    go true k = (h.0, k)
    go false k = k

lines_above : (n line : ℕ) (events : List Claimed) → n ≤ line → LinesRise line events
    → AllByRecursion (λ (event : Claimed). n < event.entry.line) events
lines_above n line [] k h = tt
lines_above n line (event ∷ events) k h =
    let l : line < event.entry.line = h.0 in
    ((omega arith), lines_above n event.entry.line events (omega arith) h.1)

pub steps_above : (n cpu : ℕ) (events : List Claimed) → LinesRise n events
    → AllByRecursion (λ (step : Step). n < step.line) (steps_at cpu events)
steps_above n cpu events h = lines_at (λ line. n < line) cpu events (lines_above n n events (omega arith) h)

-- the lines of what comes after some events
pub lines_back : (line : ℕ) (before rest : List Claimed) → LinesRise line (before ++ rest) → LinesRise line rest
lines_back line [] rest h = h
lines_back line (event ∷ before) rest h =
    let above : line < event.entry.line = h.0 in
    rise_from event.entry.line line rest (lines_back event.entry.line before rest h.1) (omega arith)

lines_below : (line : ℕ) (before rest : List Claimed) (event : Claimed) → LinesRise line (before ++ event ∷ rest)
    → AllByRecursion (λ (x : Claimed). x.entry.line < event.entry.line) before
lines_below line [] rest event h = tt
lines_below line (x ∷ before) rest event h =
    ((lines_back x.entry.line before (event ∷ rest) h.1).0, lines_below x.entry.line before rest event h.1)

-- the steps of the events before one
pub steps_below : (cpu line : ℕ) (before rest : List Claimed) (event : Claimed)
    → LinesRise line (before ++ event ∷ rest)
    → AllByRecursion (λ (step : Step). step.line < event.entry.line) (steps_at cpu before)
steps_below cpu line before rest event h = lines_at (λ n. n < event.entry.line) cpu before
    (lines_below line before rest event h)
