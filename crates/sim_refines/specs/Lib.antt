pub mod Meaning
pub mod Statement
pub mod Operations
pub mod Counts
pub mod Lent
