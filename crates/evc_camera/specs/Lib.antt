pub mod Camera
pub mod Inner
