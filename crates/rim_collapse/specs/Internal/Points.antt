-- The points of a list of triangles.
use Rattle.std.specs.Prelude.{List, [], ◌∷◌}
use Rattle.geom_core.specs.declared.points.Pt.{Pt}
use Rattle.geom_core.specs.declared.triangles.Tri.{Tri}

-- the corners in order
abbrev pub corners_of : Tri → List Pt
corners_of t = t.a ∷ t.b ∷ t.c ∷ []
