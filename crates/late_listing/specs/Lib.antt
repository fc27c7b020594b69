pub mod LateListing
