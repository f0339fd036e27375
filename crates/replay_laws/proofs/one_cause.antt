-- A first fault has one line and one cause: the law `first_faults`. From the bottom up.
pub mod OneCause
pub mod FirstFaults
