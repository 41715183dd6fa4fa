-- What only clauses of this crate's own functions name: invariants, and what they are made of.
pub mod Clusters
pub mod DoneLevels
pub mod Groups
pub mod Taking
