pub mod Writing
pub mod Fits
