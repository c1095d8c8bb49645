pub mod Bytes
pub mod RoundTrip
pub mod Records
pub mod Complete
pub mod Samples
pub mod Replays
pub mod Counts
