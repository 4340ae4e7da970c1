pub mod Text
pub mod Pieces
pub mod Numbers
pub mod Show
pub mod Model
