pub mod EncodeCases
pub mod Encode
pub mod Glyphs
pub mod Examples
