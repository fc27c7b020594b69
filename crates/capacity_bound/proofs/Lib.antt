pub mod Weighted
pub mod OpenTasks
pub mod Tightening
pub mod Bounding
