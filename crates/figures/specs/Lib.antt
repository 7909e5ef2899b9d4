pub mod Figures
pub mod Theorems
