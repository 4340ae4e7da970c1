pub mod Forms
pub mod Model
