pub mod Means
pub mod Vectors
pub mod Mirrored
pub mod CameraLaws
