mod FrontSteps
pub mod LeftThere
mod Lessened
pub mod NeededFirst
mod OneOver
pub mod OnLine
mod OnePlace
pub mod Waiting
