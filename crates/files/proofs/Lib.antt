-- The proofs that other crates may cite.
pub mod First
pub mod Single
pub mod Repeats
pub mod Repeated
pub mod Frame
pub mod Example
pub mod Numbers
pub mod Faults
