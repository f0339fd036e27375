pub mod Fits
mod Unguessed
