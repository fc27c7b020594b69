pub mod Laws
pub mod Grouping
