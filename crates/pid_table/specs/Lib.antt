pub mod Rows
pub mod Lends
pub mod Places
pub mod Marks
