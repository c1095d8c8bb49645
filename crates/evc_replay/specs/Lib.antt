pub mod Counts
pub mod Replay
