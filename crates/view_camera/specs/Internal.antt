pub mod CameraFields
pub mod Projections
pub mod RotationRows
