pub mod Internal
pub mod IsScript
pub mod Members
pub mod Script
