pub mod StaticOrder
pub mod Kept
