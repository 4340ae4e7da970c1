pub mod MacroStep
pub mod Questions
