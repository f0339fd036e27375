pub mod following
pub mod ending
pub mod composing
pub mod telling
pub mod one_cause
pub mod needing
