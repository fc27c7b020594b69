pub mod Members
pub mod Picking
