-- The proofs that other crates may cite.
pub mod Whole
pub mod Passed
pub mod Columns
pub mod Accepted
pub mod Held
pub mod Answered
