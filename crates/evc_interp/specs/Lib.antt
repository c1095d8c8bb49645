pub mod Prediction
pub mod Inner
