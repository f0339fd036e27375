mod Counting
mod Feeds
mod Coming
mod Holding
mod PassedOn
mod ReadBehind
pub mod Beginning
pub mod Turning
