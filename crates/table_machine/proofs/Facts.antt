pub mod Run
pub mod Verdict
pub mod Tape
pub mod Never
pub mod Table
