pub mod Reading
pub mod Meaning
