pub mod Adding
pub mod Begun
pub mod Cuts
pub mod Ended
pub mod Firsts
pub mod Idle
pub mod Joined
pub mod Later
pub mod Looks
pub mod Passed
pub mod Refused
pub mod Straying
pub mod Told
pub mod Usual
mod OnlyClaims
