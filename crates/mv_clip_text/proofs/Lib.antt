pub mod Decimal
pub mod Wrote
pub mod Chunks
pub mod Laws
pub mod Examples
pub mod Known
pub mod Turns
