-- The proofs that other crates may cite.
pub mod Rows
pub mod Lines
pub mod Falls
