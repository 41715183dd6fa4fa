-- The triangles round the point that may move, each with its normal.
use Rattle.std.specs.Prelude.{◌≡◌, Bool, ℕ, List, map, unsigned_abs, IsTrue}
use Rattle.geom_core.specs.declared.points.Pt.{Pt}
use Rattle.geom_core.specs.declared.triangles.Tri.{Tri}
use Rattle.geom_core.specs.Corners.{has_corner}
use Rattle.geom_core.specs.Limits.{IsGridTriangle}
use Rattle.rim_collapse.specs.declared.facets.Facet.{Facet}
use Rattle.rim_collapse.specs.declared.vectors.TheConstants.{NORMAL_LIMIT}
use Rattle.rim_collapse.specs.declared.vectors.Vector.{Vector}
use Rattle.rim_collapse.specs.Internal.Sizes.{IsWithin}
use Rattle.rim_collapse.specs.Legal.{keeps_facing}
use Rattle.rim_collapse.specs.Normals.{dot, normal}

-- the triangle with its normal
abbrev pub facet_of : Tri → Facet
facet_of t = record { tri = t; normal = normal t }

-- a triangle of a mesh with corner a, and its normal
pub record IsFacet (a : Pt) (f : Facet) : Type 0 where
  pub corner : IsTrue (has_corner a f.tri)
  pub grid : IsGridTriangle f.tri
  pub normal : f.normal ≡ normal f.tri
  pub size : IsWithin NORMAL_LIMIT f.normal

-- how far the offset leaves the facet's plane, times twice its area
abbrev pub facet_cost : Vector → Facet → ℕ
facet_cost offset f = unsigned_abs (dot f.normal offset)

-- the facet doesn't turn over
abbrev pub facet_keeps : Pt → Pt → Facet → Bool
facet_keeps a b f = keeps_facing a b f.tri

-- the facets' triangles
abbrev pub tris_in : List Facet → List Tri
tris_in facets = map (λ f. f.tri) facets
