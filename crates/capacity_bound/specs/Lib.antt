pub mod Bound
pub mod CapacityBound
