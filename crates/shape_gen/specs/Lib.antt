pub mod BoxText
pub mod Boxes
pub mod Lattice
pub mod Order
pub mod Sides
