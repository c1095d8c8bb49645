pub mod Reach
pub mod Laws
pub mod Absent
pub mod Zeros
