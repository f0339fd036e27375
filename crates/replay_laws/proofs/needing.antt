-- The largest needs are the least settings: the law `needs`. From the bottom up.
pub mod StepNeeds
pub mod PageNeeds
