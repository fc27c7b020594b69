pub mod Knapsack
