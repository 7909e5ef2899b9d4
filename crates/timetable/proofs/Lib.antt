-- The proofs that other crates may cite.
pub mod Answers
pub mod Given
pub mod Lists
pub mod Meanings
pub mod Example
