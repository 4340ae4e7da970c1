pub mod Model
pub mod Fits
pub mod Answers
