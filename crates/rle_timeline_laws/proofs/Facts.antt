pub mod Advance
pub mod FitsWith
pub mod Fits
pub mod Slots
pub mod Parts
pub mod Instance
