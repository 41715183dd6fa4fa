pub mod Internal
pub mod Sides
pub mod Span
