pub mod Masks
pub mod Growth
pub mod Covers
pub mod Testing
pub mod Append
pub mod Verdicts
