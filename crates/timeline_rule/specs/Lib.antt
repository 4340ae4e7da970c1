pub mod Model
pub mod Invariants
