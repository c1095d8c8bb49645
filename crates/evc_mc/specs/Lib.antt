pub mod Block
pub mod Lent
pub mod Inner
