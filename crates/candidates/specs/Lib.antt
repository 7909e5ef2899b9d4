pub mod Candidates
pub mod Searches
