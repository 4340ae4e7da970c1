pub mod RunCases
pub mod AnswerCases
pub mod Simulation
