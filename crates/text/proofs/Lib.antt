pub mod Appending
pub mod Decimal
pub mod Fields
pub mod Meaning
pub mod Signs
