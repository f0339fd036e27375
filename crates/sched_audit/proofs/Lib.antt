mod InBlocks
mod Outcomes
pub mod Ended
