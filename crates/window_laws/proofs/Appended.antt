-- Lists of events in two parts: their steps, times, lines, births and roll.
use Rattle.std.proofs.Common.{◌≡◌, ℕ, ◌<◌, ◌≤◌, Bool, true, false, cond, List, [], ◌∷◌, ◌++◌, map, filter, take, zero}
use Rattle.std.proofs.Common.{suc}
use Rattle.std.proofs.Common.{refl, ap, arith}
use Rattle.std.specs.List.{AllByRecursion}
use Rattle.cfs_model.specs.Claimed.{Claimed}
use Rattle.replay_model.specs.Cut.{touches, steps_at, last_time_of, last_line_after}
use Rattle.replay_model.specs.StepAt.{step_at}
use Rattle.replay_model.specs.Record.{TimesRise, LinesRise}
use Rattle.replay_model.specs.Roll.{roll_after, roll_of, BirthsAreNew}
use Rattle.replay_model.specs.declared.step.Step.{Step}

-- what holds of all of a list, of its first elements and of the others
pub all_map : {A : Type 0} (P Q : A → Type 0) → ((a : A) → P a → Q a) → (xs : List A) → AllByRecursion P xs
    → AllByRecursion Q xs
all_map P Q f [] h = tt
all_map P Q f (x ∷ xs) h = (f x h.0, all_map P Q f xs h.1)

pub all_append : {A : Type 0} (P : A → Type 0) (xs ys : List A) → AllByRecursion P xs → AllByRecursion P ys
    → AllByRecursion P (xs ++ ys)
all_append P [] ys h k = k
all_append P (x ∷ xs) ys h k = (h.0, all_append P xs ys h.1 k)

pub all_front : {A : Type 0} (P : A → Type 0) (xs ys : List A) → AllByRecursion P (xs ++ ys) → AllByRecursion P xs
all_front P [] ys h = tt
all_front P (x ∷ xs) ys h = (h.0, all_front P xs ys h.1)

pub all_back : {A : Type 0} (P : A → Type 0) (xs ys : List A) → AllByRecursion P (xs ++ ys) → AllByRecursion P ys
all_back P [] ys h = h
all_back P (x ∷ xs) ys h = all_back P xs ys h.1

pub all_take : {A : Type 0} (P : A → Type 0) (n : ℕ) (xs : List A) → AllByRecursion P xs → AllByRecursion P (take n xs)
all_take P zero xs h = tt
all_take P (suc n) [] h = tt
all_take P (suc n) (x ∷ xs) h = (h.0, all_take P n xs h.1)

pub steps_append : (cpu : ℕ) (xs ys : List Claimed) → steps_at cpu (xs ++ ys) ≡ steps_at cpu xs ++ steps_at cpu ys
steps_append cpu [] ys = refl
steps_append cpu (x ∷ xs) ys = go (touches cpu x) (steps_append cpu xs ys)
  where
    go : (b : Bool) → steps_at cpu (xs ++ ys) ≡ steps_at cpu xs ++ steps_at cpu ys
        → map (step_at cpu) (cond b (x ∷ filter (touches cpu) (xs ++ ys)) (filter (touches cpu) (xs ++ ys)))
        ≡ map (step_at cpu) (cond b (x ∷ filter (touches cpu) xs) (filter (touches cpu) xs)) ++ steps_at cpu ys
    go true h = ap (λ steps. step_at cpu x ∷ steps) h
    go false h = h

-- what holds of the lines and times of events holds of those of a processor's steps
pub steps_all : (Is : ℕ → ℕ → Type 0) (cpu : ℕ) (events : List Claimed)
    → AllByRecursion (λ (event : Claimed). Is event.entry.line event.entry.time) events
    → AllByRecursion (λ (step : Step). Is step.line step.time) (steps_at cpu events)
steps_all Is cpu [] h = tt
steps_all Is cpu (event ∷ events) h = go (touches cpu event) (steps_all Is cpu events h.1)
  where
    go : (b : Bool) → AllByRecursion (λ (step : Step). Is step.line step.time) (steps_at cpu events)
        → AllByRecursion (λ (step : Step). Is step.line step.time)
        (map (step_at cpu) (cond b (event ∷ filter (touches cpu) events) (filter (touches cpu) events)))
    go true k = (h.0, k)
    go false k = k

-- events whose lines and times rise from above a line and from a time
pub above : (line time from since : ℕ) (events : List Claimed) → line ≤ from → time ≤ since → LinesRise from events
    → TimesRise since events
    → AllByRecursion (λ (event : Claimed). (line < event.entry.line) × (time ≤ event.entry.time)) events
above line time from since [] l t h k = tt
above line time from since (event ∷ events) l t h k =
    let a : from < event.entry.line = h.0 in
    let b : since ≤ event.entry.time = k.0 in (
      ((omega arith), (omega arith)),
      above line time event.entry.line event.entry.time events (omega arith) (omega arith) h.1 k.1,
    )

time_up_to : (time : ℕ) (events : List Claimed) → TimesRise time events → time ≤ last_time_of time events
time_up_to time [] h = omega arith
time_up_to time (event ∷ events) h =
    let a : time ≤ event.entry.time = h.0 in
    let b = time_up_to event.entry.time events h.1 in
    omega (arith, a, b)

line_up_to : (line : ℕ) (events : List Claimed) → LinesRise line events → line ≤ last_line_after line events
line_up_to line [] h = omega arith
line_up_to line (event ∷ events) h =
    let a : line < event.entry.line = h.0 in
    let b = line_up_to event.entry.line events h.1 in
    omega (arith, a, b)

-- they are up to the last line and the last time
pub up_to : (line time : ℕ) (events : List Claimed) → LinesRise line events → TimesRise time events
    → AllByRecursion (λ (event : Claimed). (event.entry.line ≤ last_line_after line events)
    × (event.entry.time ≤ last_time_of time events)) events
up_to line time [] h k = tt
up_to line time (event ∷ events) h k = (
  (line_up_to event.entry.line events h.1, time_up_to event.entry.time events k.1),
  up_to event.entry.line event.entry.time events h.1 k.1,
)

pub lines_behind : (line : ℕ) (before rest : List Claimed) → LinesRise line (before ++ rest)
    → LinesRise (last_line_after line before) rest
lines_behind line [] rest h = h
lines_behind line (event ∷ before) rest h = lines_behind event.entry.line before rest h.1

pub lines_before : (line : ℕ) (before rest : List Claimed) → LinesRise line (before ++ rest) → LinesRise line before
lines_before line [] rest h = tt
lines_before line (event ∷ before) rest h = (h.0, lines_before event.entry.line before rest h.1)

pub times_behind : (time : ℕ) (before rest : List Claimed) → TimesRise time (before ++ rest)
    → TimesRise (last_time_of time before) rest
times_behind time [] rest h = h
times_behind time (event ∷ before) rest h = times_behind event.entry.time before rest h.1

pub times_before : (time : ℕ) (before rest : List Claimed) → TimesRise time (before ++ rest) → TimesRise time before
times_before time [] rest h = tt
times_before time (event ∷ before) rest h = (h.0, times_before event.entry.time before rest h.1)

pub roll_append : (alive : ℕ → Bool) (xs ys : List Claimed) → roll_of alive (xs ++ ys) ≡ roll_of (roll_of alive xs) ys
roll_append alive [] ys = refl
roll_append alive (x ∷ xs) ys = roll_append (roll_after alive x.entry.act) xs ys

pub births_append : (alive : ℕ → Bool) (xs ys : List Claimed) → BirthsAreNew alive xs
    → BirthsAreNew (roll_of alive xs) ys → BirthsAreNew alive (xs ++ ys)
births_append alive [] ys h k = k
births_append alive (x ∷ xs) ys h k = (h.0, births_append (roll_after alive x.entry.act) xs ys h.1 k)
