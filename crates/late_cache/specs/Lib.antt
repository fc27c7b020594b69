pub mod LateCache
