pub mod Model
pub mod Invariants
pub mod Written
