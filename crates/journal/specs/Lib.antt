pub mod FieldNumber
pub mod Grammar
pub mod Layout
pub mod LineResult
pub mod RestOfLine
pub mod Spelling
pub mod Typed
