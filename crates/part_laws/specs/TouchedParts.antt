-- A step of the parts that an event touches: of one, or of two by a migration (this project's profile).
use Rattle.std.specs.Prelude.{◌≡◌, ◌≢◌, ℕ, ⊤, [], ◌∷◌, ℤ}
use Rattle.cfs_model.specs.Knobs.{KnobsView}
use Rattle.cfs_model.specs.Machine.{Machine, Stands}
use Rattle.cfs_model.specs.Claimed.{Claimed}
use Rattle.cfs_model.specs.Touch.{touched}
use Rattle.replay_model.specs.Part.{Part, part_of}
use Rattle.replay_model.specs.AfterDeed.{after_deed}
use Rattle.replay_model.specs.Deeds.{left_ticket, came_ticket}
use Rattle.replay_model.specs.Tests.{PassesTests}
use Rattle.replay_model.specs.StepAt.{step_at}
use Rattle.cfs_model.specs.declared.act.Act.{Act}
use Rattle.cfs_model.specs.declared.act.Act.TheVariants.{Born}
use Rattle.cfs_model.specs.declared.task.Place.{Place}
use Rattle.replay_model.specs.declared.step.Step.{Step}

-- a part goes by a step that passes the tests on it to the part after
pub record PartStep (knobs : KnobsView) (cpu : ℕ) (before : Part) (step : Step) (after : Part) : Type 0 where
  pub found : Part
  pub passes : PassesTests knobs cpu before step found
  pub result : after ≡ after_deed found step.deed step.claim

-- the event touches this processor alone
abbrev pub TouchesOnly : Claimed → ℕ → Type 0
TouchesOnly event cpu = touched event.entry.act ≡ cpu ∷ []

-- a pid that is born stands nowhere
abbrev pub BornNowhere : Machine → Act → Type 0
BornNowhere m (Born cpu pid nice) = (place : Place) (other : ℕ) → ¬ Stands m place other pid
BornNowhere m act = ⊤

-- every other part stays
abbrev pub OthersStay : Machine → Machine → ℕ → Type 0
OthersStay before after cpu = (other : ℕ) → other ≢ cpu → part_of after other ≡ part_of before other

-- the part at the origin goes by its leave, and the part at the destination by its arrival, and their tickets are equal
pub record MovesBetween (knobs : KnobsView) (before : Machine) (event : Claimed) (orig dest pid : ℕ) (nice : ℤ)
    (left came : Part) : Type 0 where
  pub leave : PartStep knobs orig (part_of before orig) (step_at orig event) left
  pub arrive : PartStep knobs dest (part_of before dest) (step_at dest event) came
  pub tickets : left_ticket leave.found event.entry.line pid ≡ came_ticket arrive.found event.entry.line pid nice
      event.policy event.claim

-- every part but two stays
abbrev pub RestStays : Machine → Machine → ℕ → ℕ → Type 0
RestStays before after orig dest = (other : ℕ) → other ≢ orig → other ≢ dest
    → part_of after other ≡ part_of before other
