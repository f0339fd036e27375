mod Adding
pub mod CoreKept
mod Cursors
mod Deadlines
mod EventsFollowed
pub mod Extent
pub mod FewBelow
mod StreamsFollowed
mod Framed
pub mod Gathering
mod LargestNeeds
mod LeastFaults
mod LeastFound
mod Living
mod Lives
mod Naming
mod OneAnswer
mod Owned
mod Counted
mod Counting
mod PagesAdded
mod Plain
pub mod BookSlots
mod Same
mod SameTicket
mod Saying
mod WalkKept
mod Summed
mod Tasks
pub mod TicketOrder
mod TicketsPassed
pub mod Verdicts
pub mod Views
mod Walked
mod WholeLeft
mod WithinNeeds
mod ByOthers
