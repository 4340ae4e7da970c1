pub mod Fits
pub mod WriteCases
pub mod Texts
pub mod Writes
pub mod Exact
