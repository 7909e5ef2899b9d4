pub mod Cut
pub mod Example
pub mod Long
pub mod Pieces
pub mod Room
pub mod Whole
