pub mod Tasks
pub mod TaskRows
pub mod Entities
pub mod WaitingTasks
pub mod Queue
