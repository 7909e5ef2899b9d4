-- The proofs that other crates may cite.
pub mod Beginning
pub mod Answers
pub mod Meanings
