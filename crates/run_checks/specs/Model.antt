pub mod Look
pub mod Sizes
