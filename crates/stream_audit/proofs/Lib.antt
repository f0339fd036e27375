mod Companion
mod EventLines
mod SayingMore
mod Going
mod Calm
mod Handing
mod Closed
pub mod Joined
mod KnownSoFar
mod Heard
mod BothRead
mod UnderWay
mod ReadBeside
