-- What only clauses of this crate's own functions name: where leaf triangles are, and which clusters a group made.
pub mod LeafPlaces
pub mod MadeLinks
