-- The proofs that other crates may cite.
pub mod Places
pub mod Diagonal
pub mod Worth
pub mod Times
pub mod Best
