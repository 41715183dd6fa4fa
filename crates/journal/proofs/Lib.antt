pub mod Bounded
pub mod Cuts
mod ExamplesText
pub mod FittingUppers
pub mod HexDigits
pub mod KeptByLines
pub mod Limits
pub mod LineSteps
pub mod Missing
pub mod Padding
pub mod PrintedDigests
pub mod PrintedEntries
pub mod PrintedJournal
pub mod PrintedLines
pub mod PrintedFields
pub mod PrintedNumbers
pub mod WithinTypes
