pub mod NetworkBound
