pub mod Moments
pub mod Waits
pub mod Longest
pub mod Naming
pub mod Rows
pub mod Laws
