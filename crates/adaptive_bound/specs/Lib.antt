pub mod AdaptiveBound
