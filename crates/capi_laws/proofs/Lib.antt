pub mod Facts
pub mod Exports
