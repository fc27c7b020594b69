pub mod Exchange
pub mod Swap
pub mod Taking
pub mod Rooms
pub mod Asking
