pub mod Faults
pub mod Reached
