pub mod Delays
pub mod Rows
