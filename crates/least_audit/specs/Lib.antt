pub mod Rises
pub mod Pursuit
pub mod Pursuers
pub mod Candidates
pub mod FirstOf
pub mod SoFar
pub mod Audit
