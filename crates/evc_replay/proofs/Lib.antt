pub mod Counts
pub mod Records
pub mod Header
pub mod Absent
