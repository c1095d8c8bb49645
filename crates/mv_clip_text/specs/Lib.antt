pub mod Decimal
pub mod Records
pub mod Inner
pub mod Program
