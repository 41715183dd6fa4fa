pub mod Built
pub mod Grouping
pub mod Internal
pub mod Levels
pub mod Numbers
pub mod Outcomes
