-- The proofs that other crates may cite.
pub mod Shifts
pub mod Totals
mod Fallen
