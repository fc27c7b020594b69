pub mod Taking
pub mod Packing
