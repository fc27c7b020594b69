pub mod Answering
pub mod Writing
pub mod Refusal
pub mod Written
pub mod Meaning
