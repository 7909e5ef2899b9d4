-- The proofs that other crates may cite.
pub mod Margins
pub mod Told
pub mod Answers
