-- The step of the machine and the step of the one part that an event touches (this project's profile).
use Rattle.std.specs.Prelude.{◌≡◌, ℕ}
use Rattle.cfs_model.specs.Knobs.{KnobsView}
use Rattle.cfs_model.specs.Machine.{Machine}
use Rattle.cfs_model.specs.Claimed.{Claimed}
use Rattle.cfs_model.specs.Step.{IsStep}
use Rattle.cfs_model.specs.Order.{IsInOrder}
use Rattle.replay_model.specs.Part.{Part, part_of}
use Rattle.replay_model.specs.StepAt.{step_at}
use Rattle.replay_model.specs.Record.{ClaimInRange, ChargeInRange}
use Rattle.part_laws.specs.TouchedParts.{BornNowhere, OthersStay, PartStep, TouchesOnly}

-- a step of the machine by an event that touches one processor is a step of the part there, of no other part, and a
-- pid that is born stood nowhere
abbrev pub PartSteps : Type 0
PartSteps = (knobs : KnobsView) (before after : Machine) (event : Claimed) (cpu : ℕ)
    → IsInOrder before → TouchesOnly event cpu → IsStep knobs before event after
    → BornNowhere before event.entry.act
    × PartStep knobs cpu (part_of before cpu) (step_at cpu event) (part_of after cpu)
    × OthersStay before after cpu

-- from a step of the part there, the machine has a step that changes the part so and no other, where a pid that is
-- born stands nowhere
abbrev pub MachineSteps : Type 0
MachineSteps = (knobs : KnobsView) (before : Machine) (event : Claimed) (cpu : ℕ) (part : Part)
    → IsInOrder before → ClaimInRange event → ChargeInRange event → TouchesOnly event cpu
    → BornNowhere before event.entry.act
    → PartStep knobs cpu (part_of before cpu) (step_at cpu event) part
    → (after : Machine) × IsStep knobs before event after × IsInOrder after × (part_of after cpu ≡ part)
    × OthersStay before after cpu
