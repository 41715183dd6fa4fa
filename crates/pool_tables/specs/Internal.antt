pub mod Links
pub mod SnapshotList
pub mod UseOrder
