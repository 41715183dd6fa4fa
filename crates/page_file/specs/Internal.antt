-- What only clauses of this crate's own functions name: what was read so far, and what it decides; what putting a text
-- comes to.
pub mod Fronts
pub mod PageTexts
pub mod PutTris
pub mod Puts
pub mod Seen
