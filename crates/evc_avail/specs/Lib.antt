pub mod Around
pub mod Flags
pub mod Slices
pub mod Inner
