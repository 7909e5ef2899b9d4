pub mod LeastDelays
pub mod Theorems
