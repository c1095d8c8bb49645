pub mod Rows
pub mod Padding
pub mod Laws
