pub mod Base
pub mod Paper01
