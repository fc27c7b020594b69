pub mod Meeting
pub mod Choosing
pub mod Fairness
