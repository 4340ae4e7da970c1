pub mod Accepts
pub mod Space
pub mod PlainClaims
pub mod SecondPlain
pub mod ChainClaims
pub mod SecondChain
