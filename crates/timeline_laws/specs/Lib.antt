pub mod Meaning
pub mod Notes
pub mod Statement
pub mod Automaton
pub mod TableRunFacts
pub mod TableRun
pub mod Laws
pub mod Instance
