pub mod FirstBreaks
pub mod Internal
