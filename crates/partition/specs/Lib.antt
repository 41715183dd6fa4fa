pub mod Batches
pub mod Clusters
pub mod Groups
pub mod Growing
pub mod Internal
pub mod Morton
pub mod Neighbours
pub mod OneBatch
