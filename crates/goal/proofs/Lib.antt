pub mod Numbers
pub mod First
pub mod Mark
pub mod Few
