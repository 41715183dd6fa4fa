-- What only clauses of this crate's own functions name: invariants, and what they are made of.
pub mod EdgeUses
pub mod EdgesOfItem
pub mod Frontiers
pub mod Growths
pub mod RankBatches
pub mod Ranking
pub mod SharedEdges
