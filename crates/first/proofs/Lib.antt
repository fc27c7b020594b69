pub mod Entering
pub mod Placing
