pub mod Engine
pub mod Timeline
pub mod Due
pub mod Kind
