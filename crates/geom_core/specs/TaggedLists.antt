-- The triangles of a list of triangles with their sources.
use Rattle.std.specs.Prelude.{List, map}
use Rattle.geom_core.specs.declared.triangles.Tri.{Tri}
use Rattle.geom_core.specs.declared.triangles.Tagged.{Tagged}

-- the triangles in order, without their sources
abbrev pub tris_of : List Tagged → List Tri
tris_of tagged = map (λ t. t.tri) tagged
