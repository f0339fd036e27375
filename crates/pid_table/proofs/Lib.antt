pub mod Indices
pub mod Changes
mod Nodes
mod Marks
