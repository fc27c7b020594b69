pub mod Region
pub mod Lends
pub mod Begins
pub mod Given
