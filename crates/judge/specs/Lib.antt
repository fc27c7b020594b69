pub mod Judge
pub mod Arrays
pub mod Good
pub mod Meaning
