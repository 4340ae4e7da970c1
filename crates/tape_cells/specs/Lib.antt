pub mod Growth
pub mod Model
