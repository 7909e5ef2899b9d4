pub mod Refusals
pub mod Repeated
pub mod Files
pub mod Theorems
