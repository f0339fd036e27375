pub mod Aim
pub mod Progress
pub mod Joined
pub mod Judge
pub mod Companion
pub mod Course
pub mod Hearing
pub mod Listening
