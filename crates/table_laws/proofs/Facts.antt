pub mod Entries
pub mod CheckExact
pub mod Reading
pub mod Bytes
mod SingleTape
pub mod RoundTrip
pub mod PackedTable
