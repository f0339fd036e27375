pub mod Reading
pub mod Settled
