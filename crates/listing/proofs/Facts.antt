pub mod OutputCases
pub mod FirstBytes
