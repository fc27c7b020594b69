pub mod Run
pub mod Periodic
pub mod Response
pub mod Margin
pub mod Arrays
