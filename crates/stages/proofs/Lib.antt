-- The proofs that other crates may cite.
pub mod Staged
pub mod Listed
pub mod Behind
