pub mod Backtrack
