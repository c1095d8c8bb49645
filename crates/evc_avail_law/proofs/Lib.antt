pub mod Units
pub mod Bits
pub mod Candidates
pub mod SliceLaws
