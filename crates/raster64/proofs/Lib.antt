mod Examples
pub mod Bounds
pub mod CentreRanges
pub mod DepthSteps
pub mod Division
pub mod DrawnColumns
pub mod Exchanged
pub mod Products
pub mod SharedEdgeLaws
pub mod SpanLaws
pub mod Stretches
