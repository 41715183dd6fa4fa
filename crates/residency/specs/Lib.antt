pub mod History
pub mod Internal
