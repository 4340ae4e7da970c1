pub mod Text
pub mod FilledTable
pub mod TableGiven
pub mod Accepted
pub mod TableBytes
pub mod Examples
pub mod Rows
