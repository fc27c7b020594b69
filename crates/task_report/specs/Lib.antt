pub mod Report
pub mod Small
