pub mod Form
pub mod Line
