pub mod Subgradient
