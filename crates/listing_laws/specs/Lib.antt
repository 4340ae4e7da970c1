pub mod EntryLines
pub mod Rows
