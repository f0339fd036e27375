pub mod Answer
pub mod Asked
pub mod Codes
pub mod Run
pub mod Waits
