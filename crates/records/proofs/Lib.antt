-- The proofs that other crates may cite.
pub mod Fill
pub mod Nexts
pub mod Parts
pub mod Rows
pub mod Ordered
pub mod EdgesIn
