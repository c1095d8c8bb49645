pub mod Sizes
pub mod Starts
pub mod Reference
