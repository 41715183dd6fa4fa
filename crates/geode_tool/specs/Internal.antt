pub mod Unwritten
pub mod Verifying
