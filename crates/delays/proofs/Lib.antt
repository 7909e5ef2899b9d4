-- The proofs that other crates may cite.
pub mod Table
pub mod Paths
pub mod Signed
pub mod Parts
pub mod Rows
pub mod Steps
pub mod Kept
pub mod Making
