pub mod Filling
pub mod Refuting
pub mod Settling
pub mod Lending
pub mod Narrowing
