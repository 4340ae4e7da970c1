pub mod Growth
pub mod LoopCases
