pub mod Held
pub mod Blocks
pub mod OfTrace
pub mod OfEntries
pub mod OfCompanion
