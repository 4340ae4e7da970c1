pub mod Bytes
pub mod Model
