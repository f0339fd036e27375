pub mod TouchedParts
pub mod PartSteps
pub mod Migrations
pub mod Pages
