pub mod Finding
pub mod LeastAnswer
pub mod Left
pub mod OneLeastAnswer
pub mod Place
pub mod Walks
