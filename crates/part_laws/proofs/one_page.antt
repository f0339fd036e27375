-- Each step of a replay has one outcome, so a stream has one page: the law `pages`. From the bottom up.
pub mod OneLift
pub mod OnePid
pub mod OneRunner
pub mod OnePage
