-- A state of a simplification: the triangles that are left, in the order of the list that was given, each beside the
-- triangle of that list that it was.
use Rattle.std.specs.Prelude.{List, map, filter}
use Rattle.geom_core.specs.declared.points.Pt.{Pt}
use Rattle.geom_core.specs.declared.triangles.Tri.{Tri}
use Rattle.geom_core.specs.declared.triangles.Tagged.{Tagged}
use Rattle.geom_core.specs.Collapses.{replaced}
use Rattle.geom_core.specs.Limits.{has_distinct_corners}
use Rattle.rim_collapse.specs.declared.states.Kept.{Kept}

-- the state before any collapse
abbrev pub begun : List Tagged → List Kept
begun tris = map (λ t. record { tri = t.tri; was = t }) tris

-- the triangles as they are
abbrev pub present : List Kept → List Tri
present kept = map (λ k. k.tri) kept

-- the triangle as it is, with its source
abbrev pub tagged_of : Kept → Tagged
tagged_of k = record { tri = k.tri; source = k.was.source }

-- b takes a's place in the triangle
abbrev pub moved_to : Pt → Pt → Kept → Kept
moved_to a b k = record { tri = replaced a b k.tri; was = k.was }

-- the state after a collapse of a to b: b takes a's place in each triangle, and those that then have two equal corners
-- are left out
unfoldable pub after : Pt → Pt → List Kept → List Kept
after a b kept = filter (λ k. has_distinct_corners k.tri) (map (moved_to a b) kept)
