pub mod Marks
pub mod Theorems
