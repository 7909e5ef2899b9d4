-- The proofs that other crates may cite.
pub mod Chain
pub mod Tested
pub mod Meanings
pub mod Orders
pub mod Judging
pub mod Sizes
