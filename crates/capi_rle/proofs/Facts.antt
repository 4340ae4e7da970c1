pub mod Calls
pub mod Timelines
