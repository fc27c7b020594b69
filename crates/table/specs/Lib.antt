pub mod Scan
pub mod Refusal
pub mod Table
pub mod Columns
pub mod Sound
pub mod Encode
