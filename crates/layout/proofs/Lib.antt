pub mod EachKind
pub mod Places
