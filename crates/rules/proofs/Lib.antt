pub mod Where
pub mod Monotone
pub mod Order
pub mod Step
pub mod Bounds
pub mod SetsLoop
pub mod Sets
pub mod Placed
