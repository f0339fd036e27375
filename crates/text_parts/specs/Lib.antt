pub mod Pieces
pub mod Numerals
pub mod Packed
pub mod Lines
pub mod Time
pub mod Reading
pub mod Unbroken
pub mod Marks
