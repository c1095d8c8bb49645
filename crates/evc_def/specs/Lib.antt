pub mod Blocks
pub mod Codes
pub mod Lists
pub mod Places
pub mod Refusals
pub mod Tables
