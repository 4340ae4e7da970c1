pub mod Model
pub mod Simulation
