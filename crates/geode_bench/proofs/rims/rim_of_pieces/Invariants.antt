use Rattle.std.proofs.Common.{◌≡◌, ◌++◌, List, length, take, map}
use Rattle.geom_core.specs.declared.triangles.Tri.{Tri}
use Rattle.half_mesh.specs.Rim.{AreRimsOf, all_of}
use Rattle.geode_bench.proofs.rims.rim_of_pieces.Given as goal

-- the rims so far are those of some lists, which with the triangles that are left make the whole list
abbrev pub invariant-loop-rest : goal.invariant-loop-rest
invariant-loop-rest l = (lists : List (List Tri)) × AreRimsOf lists l.rims.items × (l.tris ≡ all_of lists ++ l.rest)

abbrev pub decreases-loop-rest : goal.decreases-loop-rest
decreases-loop-rest l = length l.rest

-- references to the rims so far
abbrev pub invariant-loop-rim : goal.invariant-loop-rim
invariant-loop-rim l = map (λ part. part.now) l.parts.items ≡ take l.rim-index l.rim-items
