pub mod Facts
pub mod SecondPlain
pub mod SecondChain
