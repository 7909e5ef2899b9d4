-- The proofs that other crates may cite.
pub mod Chain
pub mod Fronts
pub mod Accepting
pub mod Judged
pub mod Reached
pub mod Turning
pub mod Rooms
pub mod AcceptedFiles
pub mod Readings
pub mod Written
pub mod Example
