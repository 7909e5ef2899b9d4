-- The proofs of the demands and of the change requests.
pub mod Sequences
pub mod Conditions
pub mod Followed
pub mod Verdicts
pub mod Answer
pub mod Passed
pub mod Demand1
pub mod Demand2
pub mod Demand3
pub mod Requests
pub mod Promises
pub mod Cases
