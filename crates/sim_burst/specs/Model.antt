pub mod Burst
pub mod Words
