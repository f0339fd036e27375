pub mod Short
pub mod Within
pub mod Reaching
pub mod Rising
pub mod Places
pub mod LeastSoFar
pub mod RiseEvents
