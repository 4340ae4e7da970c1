pub mod Mirror
pub mod Renaming
pub mod Bytes
pub mod Claims
pub mod OneTape
