pub mod Places
pub mod ReadCases
pub mod Columns
pub mod Lacks
pub mod Texts
pub mod Reads
pub mod Exact
