pub mod CountCases
pub mod SumCases
pub mod WordCases
