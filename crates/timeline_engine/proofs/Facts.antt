pub mod Answers
pub mod Begin
pub mod Moves
pub mod Store
pub mod Turns
