pub mod RoundTrip
pub mod Replays
pub mod Counts
