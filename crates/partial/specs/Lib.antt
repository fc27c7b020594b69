pub mod Partial
pub mod Tests
pub mod Start
