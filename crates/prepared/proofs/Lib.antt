-- The proofs that other crates may cite.
pub mod FirstReady
mod Starting
