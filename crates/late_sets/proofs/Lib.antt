pub mod Joining
pub mod Recursion
