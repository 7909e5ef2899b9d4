-- The proofs that other crates may cite.
pub mod Worths
pub mod Stepping
pub mod Following
