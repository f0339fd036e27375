pub mod Ending
pub mod Filled
pub mod Own
pub mod Refusal
pub mod Tags
