pub mod Filtering
pub mod Keeping
