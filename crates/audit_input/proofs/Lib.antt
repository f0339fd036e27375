mod Counting
pub mod Versions
