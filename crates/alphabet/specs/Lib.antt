pub mod Model
pub mod Glyphs
