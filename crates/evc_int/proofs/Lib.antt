pub mod Bools
pub mod Whole
pub mod Expressions
pub mod Division
pub mod Clipping
pub mod Machine
pub mod LowBits
pub mod Lists
