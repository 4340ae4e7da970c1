pub mod Call
pub mod RowCases
