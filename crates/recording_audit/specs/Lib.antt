pub mod Parts
pub mod Tasks
pub mod Causes
pub mod Splits
pub mod Pieces
pub mod Recording
pub mod Report
