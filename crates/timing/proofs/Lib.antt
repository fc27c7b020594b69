pub mod Limits
pub mod HigherLoops
