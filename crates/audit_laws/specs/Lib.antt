pub mod LawsOfAYes
pub mod OneOutcome
