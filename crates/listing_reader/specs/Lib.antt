pub mod Listing
pub mod Contents
pub mod Invariants
