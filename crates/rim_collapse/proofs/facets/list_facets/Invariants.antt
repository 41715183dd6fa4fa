use Rattle.std.proofs.Common.{◌≡◌, map, take}
use Rattle.rim_collapse.specs.Internal.Chains.{faces_at}
use Rattle.rim_collapse.specs.Internal.Faces.{tris_at}
use Rattle.rim_collapse.specs.Internal.Facets.{facet_of}
use Rattle.rim_collapse.proofs.facets.list_facets.Given as goal

abbrev pub invariant-loop-corner : goal.invariant-loop-corner
invariant-loop-corner l =
    l.facets.items ≡ map facet_of (tris_at l.points (faces_at l.faces (take l.corner-index l.corners)))
