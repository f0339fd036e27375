-- A window of a record, as contracts see it: a stretch of its events, each with what the companion says on its line
-- (this project's profile).
use Rattle.std.specs.Prelude.{◌≡◌, ℕ, ◌<◌, List, [], ◌∷◌, drop, length, slice_index_or}
use Rattle.cfs_model.specs.Claimed.{Claimed}
use Rattle.cfs_model.specs.declared.act.Entry.{Entry}
use Rattle.replay_model.specs.Cut.{steps_at}
use Rattle.replay_model.specs.StepAt.{step_at}
use Rattle.replay_model.specs.declared.step.Step.{Step}
use Rattle.sched_record.specs.declared.window.Saying.{Saying}
use Rattle.sched_record.specs.declared.window.Window.{Window}

-- an event with what is said on its line
abbrev pub said_of : Entry → Saying → Claimed
said_of event saying = record {
  entry = event;
  claim = saying.claim;
  nice = saying.nice;
  charge = saying.charge;
  policy = saying.policy;
}

-- events, each with what is said on its line
abbrev pub said_beside : List Entry → List Saying → List Claimed
said_beside [] sayings = []
said_beside (event ∷ events) [] = []
said_beside (event ∷ events) (saying ∷ sayings) = said_of event saying ∷ said_beside events sayings

abbrev pub window_view : Window → List Claimed
window_view window = said_beside window.events.items window.sayings

-- the events that wait until it is told what is said on their lines
abbrev pub waiting : Window → List Entry
waiting window = drop (length window.sayings) window.events.items

-- the events that touch a processor stand at these indices, in their order: their steps are those of the processor
pub record AreTouching (cpu : ℕ) (events : List Claimed) (indices : List ℕ) : Type 0 where
  pub within : (k : ℕ) → k < length indices → slice_index_or indices k 0 < length events
  pub count : length (steps_at cpu events) ≡ length indices
  pub steps : (k : ℕ) (here : Claimed) (d : Step) → k < length indices
      → here ≡ slice_index_or events (slice_index_or indices k 0) here
      → slice_index_or (steps_at cpu events) k d ≡ step_at cpu here
