pub mod Between
pub mod Joining
pub mod Lesser
pub mod Look
pub mod News
pub mod Passing
pub mod Policies
