pub mod Lists
pub mod Passing
pub mod Ending
pub mod WholeRecord
pub mod Portions
