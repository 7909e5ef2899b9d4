pub mod Subsumption
