pub mod Same
pub mod StreamKept
pub mod Stream
