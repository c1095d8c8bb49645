pub mod Call
pub mod Once
pub mod Units
