pub mod Made
pub mod Reduced
pub mod Rows
pub mod Scattered
