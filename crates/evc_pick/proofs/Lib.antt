pub mod Tail
pub mod Again
pub mod Ends
pub mod Walk
