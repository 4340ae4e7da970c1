pub mod Engine
pub mod Operations
pub mod Questions
pub mod Turns
pub mod Bursts
