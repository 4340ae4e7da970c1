pub mod Bytes
pub mod Slots
pub mod LoopCases
