pub mod TableMachine
pub mod Tables
pub mod Beside
