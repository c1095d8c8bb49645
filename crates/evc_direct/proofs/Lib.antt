pub mod Direct
pub mod Laws
pub mod Edges
pub mod Absent
