pub mod Fits
pub mod Cells
pub mod CellPlaces
pub mod MoveCases
pub mod Moves
pub mod QuestionCases
pub mod Answers
