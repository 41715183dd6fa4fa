use Rattle.std.proofs.Common.{◌≡◌, ◌++◌, flat_map, length}
use Rattle.half_mesh.specs.declared.cancelling.TheConstants.{SLOTS}
use Rattle.half_mesh.specs.Terms.{AddUpAlike, AreSmall, terms_of}
use Rattle.half_mesh.proofs.rims.cancel_edges.Given as goal

-- the terms so far, with those of the triangles that are left, have the sums of all triangles
abbrev pub invariant-loop-rest : goal.invariant-loop-rest
invariant-loop-rest l =
    (length l.slots ≡ SLOTS) × AreSmall l.slots × AreSmall l.left.items ×
    AddUpAlike ((l.left.items ++ l.slots) ++ flat_map terms_of l.rest)
    ((l.fn.left.items ++ l.fn.slots) ++ flat_map terms_of l.tris)

abbrev pub decreases-loop-rest : goal.decreases-loop-rest
decreases-loop-rest l = length l.rest
