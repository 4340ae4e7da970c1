pub mod Kinds
pub mod Model
