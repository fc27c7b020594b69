pub mod BoundCache
