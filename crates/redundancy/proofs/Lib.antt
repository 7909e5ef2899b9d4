-- The proofs that other crates may cite.
pub mod Between
pub mod Graphs
pub mod Rule
pub mod Sums
pub mod Turned
pub mod Words
