pub mod Findings
pub mod ExtractLoop
pub mod AnswerPlace
pub mod Counting
