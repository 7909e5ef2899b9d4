pub mod Redundant
pub mod Theorems
