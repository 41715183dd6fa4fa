pub mod CoordinateLaws
pub mod DigitLaws
mod Examples
mod ExamplesNumerals
pub mod ExponentLaws
pub mod Gathered
pub mod Judged
pub mod LineSteps
pub mod LineWords
pub mod LinesInTurn
pub mod NumeralLaws
pub mod Pieces
pub mod Polygons
pub mod Powers
pub mod ReferenceLaws
pub mod Returns
pub mod RoundingLaws
pub mod SignificantLaws
pub mod SoundMeshes
pub mod Standing
pub mod TakenBytes
pub mod TextLines
