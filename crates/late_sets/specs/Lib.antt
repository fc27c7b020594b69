pub mod LateSets
