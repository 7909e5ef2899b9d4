-- The proofs that other crates may cite.
pub mod Bits
pub mod Rounds
pub mod Processors
pub mod Delays
