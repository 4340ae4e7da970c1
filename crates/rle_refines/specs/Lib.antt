pub mod Meaning
pub mod Full
pub mod Statement
pub mod Operations
