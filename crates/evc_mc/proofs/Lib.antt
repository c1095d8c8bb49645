pub mod Answers
pub mod Checks
pub mod Motion
pub mod Samples
pub mod Unused
pub mod Predictions
pub mod Edges
