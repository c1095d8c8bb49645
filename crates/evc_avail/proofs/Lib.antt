pub mod Around
pub mod EightUnits
pub mod Answers
pub mod Seen
pub mod Flags
pub mod WholePicture
pub mod Laws
pub mod Edges
