-- What a run of the scheduler is (this project's profile).
use Rattle.std.specs.Prelude.{◌≡◌, ℕ, List, [], ◌∷◌, ◌++◌, map, ⊤}
use Rattle.cfs_model.specs.Knobs.{KnobsView}
use Rattle.cfs_model.specs.Machine.{Machine}
use Rattle.cfs_model.specs.Claimed.{Claimed}
use Rattle.cfs_model.specs.Step.{IsStep}
use Rattle.cfs_model.specs.Idling.{KeepsSlack}

-- each event leads to the next of these states
abbrev pub AreSteps : KnobsView → Machine → List Claimed → List Machine → Type 0
AreSteps knobs before [] [] = ⊤
AreSteps knobs before (event ∷ events) (after ∷ states) = IsStep knobs before event after
    × AreSteps knobs after events states
AreSteps knobs before _ _ = ⊥

-- the start's time, and then the time of each event
abbrev pub times_of : ℕ → List Claimed → List ℕ
times_of start events = start ∷ map (λ event. event.entry.time) events

-- the events are a run from a machine at the start: there are states, each by a step from the one before, and no
-- processor idles beside a waiting task for longer than the slack
pub record IsRun (knobs : KnobsView) (start : ℕ) (first : Machine) (events : List Claimed) : Type 0 where
  pub states : List Machine
  pub steps : AreSteps knobs first events states
  pub slack : KeepsSlack knobs.slack (times_of start events) (first ∷ states)

-- the last of some states that follow a first
abbrev pub last_of : Machine → List Machine → Machine
last_of m [] = m
last_of m (after ∷ states) = last_of after states

-- the line of an event up to which the events are no run, though those before it are one
pub record IsFirstBad (knobs : KnobsView) (start : ℕ) (first : Machine) (events : List Claimed) (line : ℕ) : Type 0
  where
    pub before : List Claimed
    pub event : Claimed
    pub rest : List Claimed
    pub whole : events ≡ before ++ event ∷ rest
    pub line_is : event.entry.line ≡ line
    pub runs : IsRun knobs start first before
    pub ends : ¬ IsRun knobs start first (before ++ event ∷ [])
