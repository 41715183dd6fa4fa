pub mod FlatLaws
pub mod JoinLaws
pub mod ListedTriangles
