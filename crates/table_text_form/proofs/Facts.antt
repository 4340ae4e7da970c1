pub mod Good
pub mod Cases
pub mod Columns
pub mod Places
pub mod Accepts
pub mod Place
pub mod Long
