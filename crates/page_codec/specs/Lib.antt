pub mod Breaks
pub mod Fits
pub mod Lookups
pub mod Numbers
pub mod PageLinks
pub mod Reading
pub mod Records
pub mod Spelling
