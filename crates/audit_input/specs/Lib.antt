pub mod Texts
pub mod Causes
pub mod Refusals
pub mod Words
pub mod Codes
pub mod Known
