-- The proofs that other crates may cite.
pub mod Needing
pub mod Given
pub mod Graphs
