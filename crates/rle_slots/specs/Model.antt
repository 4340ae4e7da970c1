pub mod Advance
pub mod Slots
pub mod Kind
pub mod Restored
