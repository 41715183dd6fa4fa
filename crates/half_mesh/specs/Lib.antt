pub mod Around
pub mod Corners
pub mod Incidences
pub mod Order
pub mod Rim
pub mod Terms
pub mod Tables
