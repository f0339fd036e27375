pub mod Touching
pub mod stepping
pub mod migrating
pub mod one_page
