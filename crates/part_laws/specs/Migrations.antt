-- A migration in the machine, and in the parts at its two ends (this project's profile).
use Rattle.std.specs.Prelude.{◌≡◌, ◌≢◌, ℕ, ℤ}
use Rattle.cfs_model.specs.Knobs.{KnobsView}
use Rattle.cfs_model.specs.Machine.{Machine}
use Rattle.cfs_model.specs.Claimed.{Claimed}
use Rattle.cfs_model.specs.Step.{IsStep}
use Rattle.cfs_model.specs.Order.{IsInOrder}
use Rattle.replay_model.specs.Part.{Part, part_of}
use Rattle.replay_model.specs.Record.{ClaimInRange, ChargeInRange}
use Rattle.part_laws.specs.TouchedParts.{MovesBetween, RestStays}
use Rattle.cfs_model.specs.declared.act.Act.TheVariants.{Shift}

-- a migration of the machine is one of its parts
abbrev pub PartsMigrate : Type 0
PartsMigrate = (knobs : KnobsView) (before after : Machine) (event : Claimed) (orig dest pid : ℕ) (nice : ℤ)
    → IsInOrder before → event.entry.act ≡ Shift orig dest pid nice → IsStep knobs before event after
    → (orig ≢ dest) × MovesBetween knobs before event orig dest pid nice (part_of after orig) (part_of after dest)
    × RestStays before after orig dest

-- a migration of the parts is one of the machine
abbrev pub MachineMigrates : Type 0
MachineMigrates = (knobs : KnobsView) (before : Machine) (event : Claimed) (orig dest pid : ℕ) (nice : ℤ)
    (left came : Part)
    → IsInOrder before → ClaimInRange event → ChargeInRange event → event.entry.act ≡ Shift orig dest pid nice
    → MovesBetween knobs before event orig dest pid nice left came
    → (after : Machine) × IsStep knobs before event after × IsInOrder after × (part_of after orig ≡ left)
    × (part_of after dest ≡ came) × RestStays before after orig dest
