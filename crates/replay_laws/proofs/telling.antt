-- Pages that suffice tell a run, or its first fault: the law `closing`. Up to FrontRun of a run, and then of a fault.
pub mod WholeReplay
pub mod Deadlines
pub mod FrontReplay
pub mod IdleFaults
pub mod Fronts
pub mod FrontRun
pub mod BornHere
pub mod PageCauses
pub mod PagesTell
pub mod FrontFaults
pub mod Stops
pub mod PagesSuffice
