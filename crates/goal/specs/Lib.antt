pub mod Order
pub mod Goal
