pub mod Centres
pub mod Numerators
pub mod Raster
