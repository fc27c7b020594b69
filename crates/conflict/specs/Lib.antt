pub mod Conflict
pub mod Entry
pub mod Count
