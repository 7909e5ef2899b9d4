-- The proofs that other crates may cite.
pub mod Answers
pub mod Meanings
pub mod Example
