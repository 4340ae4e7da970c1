pub mod Engine
pub mod Operations
pub mod Questions
pub mod Records
