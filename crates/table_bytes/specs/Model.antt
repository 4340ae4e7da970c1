pub mod Entries
pub mod Words
