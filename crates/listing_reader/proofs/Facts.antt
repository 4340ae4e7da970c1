pub mod Word
pub mod TurnCases
pub mod Arrays
pub mod ParseCases
pub mod Table
pub mod Accepted
pub mod FirstBytes
pub mod Examples
