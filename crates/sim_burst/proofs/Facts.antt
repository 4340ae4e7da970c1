pub mod BurstCases
pub mod Burst
pub mod Words
