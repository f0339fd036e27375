pub mod Totals
pub mod Tallying
