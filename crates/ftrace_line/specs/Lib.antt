pub mod Head
pub mod Clock
pub mod Line
pub mod Seen
pub mod Front
pub mod Meaning
pub mod Usual
