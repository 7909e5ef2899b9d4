pub mod Acceptance
pub mod Outcomes
pub mod Theorems
