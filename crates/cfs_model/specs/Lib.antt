-- In a reader's order: the numbers and settings, then what a run is, then the order that it keeps, its least settings
-- and its laws; then the kinds of fault.
pub mod Limits
pub mod Nice
pub mod Charge
pub mod Knobs
pub mod Options
pub mod Machine
pub mod Start
pub mod Claimed
pub mod Touch
pub mod Lives
pub mod Told
pub mod Lifted
pub mod Reniced
pub mod Step
pub mod Idling
pub mod Run
pub mod Order
pub mod Least
pub mod Laws
pub mod ToldLaws
pub mod Kinds
pub mod Examples
