pub mod PrintCases
pub mod AnswerCases
pub mod FirstBytes
