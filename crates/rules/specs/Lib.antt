pub mod Placement
pub mod Rules
pub mod Sets
