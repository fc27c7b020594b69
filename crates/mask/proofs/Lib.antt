pub mod Tests
pub mod Laws
pub mod Visit
pub mod Summed
