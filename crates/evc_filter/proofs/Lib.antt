pub mod Tables
pub mod Sums
pub mod Laws
pub mod Edges
