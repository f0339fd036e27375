pub mod NameOf
pub mod Names
