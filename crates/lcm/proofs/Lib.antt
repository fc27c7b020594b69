pub mod Laws
pub mod Euclid
