pub mod Chain
pub mod NumberCases
pub mod PieceCases
pub mod PrintCases
pub mod ReadBack
pub mod Library
