pub mod AnswerCases
pub mod FirstBytes
