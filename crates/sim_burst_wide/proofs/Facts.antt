pub mod BurstCases
