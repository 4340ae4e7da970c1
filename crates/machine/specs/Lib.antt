pub mod Layout
pub mod Model
