pub mod Bounding
pub mod Noting
