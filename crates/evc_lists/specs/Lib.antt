pub mod Arbitrary
pub mod Planes
pub mod Printed
pub mod Records
pub mod Units
