pub mod Symmetry
pub mod Asks
