-- A step of the machine by an event that touches one processor is a step of the part there: the law `part_steps`.
-- From the bottom up.
pub mod PartLift
pub mod PartRenice
pub mod PartMoves
pub mod PartSwitch
pub mod SwitchClear
pub mod PartPlaced
pub mod PlacedClear
pub mod PartSteps
pub mod PartForward
