pub mod CameraNumbers
pub mod Internal
pub mod ViewPoints
