pub mod Filter
pub mod Inner
