mod Examples
pub mod FileParts
pub mod FileWrites
pub mod FrontTexts
pub mod GroupSizes
pub mod HeaderTexts
pub mod LaidGroups
pub mod LaidHeads
pub mod LaidPages
pub mod LaidRules
pub mod LaidTriangles
mod LayoutExamples
pub mod NextFit
pub mod PageClusters
pub mod PageLoads
pub mod PutTris
pub mod Rules
pub mod StepRefusals
pub mod SoundBytes
pub mod Steps
pub mod StoredDags
pub mod Texts
pub mod Verified
pub mod WholeFiles
pub mod Written
