pub mod Clear
pub mod Options
pub mod PartFacts
pub mod RecordFrom
pub mod Replayed
pub mod StartFrom
pub mod TicketLines
