-- The proofs that other crates may cite.
pub mod Digits
pub mod Example
pub mod Laws
pub mod Leading
pub mod Listing
pub mod Listed
