pub mod Member
pub mod States
pub mod Audit
pub mod Last
pub mod Whole
