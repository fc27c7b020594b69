pub mod Acceptance
pub mod Accepted
pub mod Inside
pub mod Passed
pub mod Taking
pub mod Tests
