pub mod Check
pub mod Packing
pub mod Word
