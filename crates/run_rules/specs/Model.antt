pub mod Task
pub mod Run
pub mod Answers
