pub mod Stack
pub mod Sides
pub mod Tape
pub mod Repeats
pub mod MacroStep
pub mod Canonical
pub mod WordStack
pub mod Patterns
pub mod Plan
pub mod InsideMacroStep
pub mod Refinement
pub mod Run
pub mod Space
pub mod CutFuel
pub mod Fits
pub mod Fresh
pub mod Operations
pub mod Rule
pub mod SideCells
pub mod Cells
pub mod NonBlank
mod NonBlankEnds
mod SideCounts
pub mod Counts
pub mod Questions
