pub mod BreakLaws
pub mod Examples
pub mod LeafLaws
pub mod MadeLaws
pub mod NearLaws
pub mod NumberLaws
pub mod PartLaws
