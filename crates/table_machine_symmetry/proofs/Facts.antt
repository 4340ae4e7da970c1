pub mod Mirror
pub mod Renaming
pub mod Configs
pub mod Bytes
mod Claims
