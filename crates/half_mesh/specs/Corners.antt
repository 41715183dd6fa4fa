-- The corners of triangles, each marked with the place of its triangle in the list.
use Rattle.std.specs.Prelude.{Bool, false, ◌||◌, ℕ, List, [], ◌∷◌, ◌++◌, flat_map, if◌then◌else◌}
use Rattle.std.specs.List.{enumerate_from}
use Rattle.geom_core.specs.declared.points.Pt.{Pt}
use Rattle.geom_core.specs.declared.triangles.Tri.{Tri}
use Rattle.geom_core.specs.EdgeSum.{same_point}
use Rattle.half_mesh.specs.declared.incidences.Incidence.{Incidence}

-- a corner of triangle k, unless an earlier one has its point
abbrev pub corner_at : ℕ → Pt → Bool → List (Incidence ℕ)
corner_at k point repeats = if repeats then [] else record { point = point; what = k } ∷ []

-- the corners of a triangle, each point once
unfoldable pub corners_at : ℕ → Tri → List (Incidence ℕ)
corners_at k t =
    corner_at k t.a false ++ corner_at k t.b (same_point t.b t.a) ++
    corner_at k t.c (same_point t.c t.a || same_point t.c t.b)

-- the corners of all triangles, in order
abbrev pub corners_of : List Tri → List (Incidence ℕ)
corners_of tris = flat_map (λ (k, t). corners_at k t) (enumerate_from 0 tris)
