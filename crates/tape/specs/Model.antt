pub mod Moves
pub mod Questions
