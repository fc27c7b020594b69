pub mod Lcm
