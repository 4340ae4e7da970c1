pub mod LookCases
pub mod SizesCases
