pub mod Check
pub mod CheckCases
pub mod PackingCases
pub mod Word
pub mod Packed
