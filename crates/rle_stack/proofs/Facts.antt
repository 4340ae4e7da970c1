pub mod SideCases
pub mod Sides
pub mod QuestionCases
