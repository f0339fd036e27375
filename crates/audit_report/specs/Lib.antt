pub mod Codes
pub mod Report
pub mod Taken
pub mod Beside
pub mod WaitLines
