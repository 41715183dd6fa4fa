use Rattle.std.proofs.Common.{◌≡◌, take, flat_map}
use Rattle.half_mesh.specs.Terms.{terms_of}
use Rattle.half_mesh.proofs.terms.list_terms.Given as goal

-- the terms of the triangles so far
abbrev pub invariant-loop-tri : goal.invariant-loop-tri
invariant-loop-tri l = l.terms.items ≡ flat_map terms_of (take l.tri-index l.tris)
