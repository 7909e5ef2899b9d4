pub mod Judgement
pub mod Searches
pub mod Theorems
