pub mod Backtracking
