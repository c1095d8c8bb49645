pub mod CameraLaws
