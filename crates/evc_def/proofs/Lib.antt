pub mod Codes
pub mod SideBits
pub mod Blocks
pub mod Positions
pub mod Refusals
