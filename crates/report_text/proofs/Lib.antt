pub mod ClearTexts
mod Examples
pub mod JournalLines
pub mod ReadBack
pub mod SpacedFields
mod TextRows
