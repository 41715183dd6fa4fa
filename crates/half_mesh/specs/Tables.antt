-- What a table of edges and corners holds for a list of triangles.
use Rattle.std.specs.Prelude.{◌≡◌, ◌↔◌, ◌≤◌, ℕ, ℤ, List, length, map, AllPairs, Contains}
use Rattle.std.specs.declared.cmp.Ordering.TheVariants.{Less}
use Rattle.geom_core.specs.declared.limits.TheConstants.{MAX_SUMMED_TRIANGLES}
use Rattle.geom_core.specs.declared.points.Pt.{Pt}
use Rattle.geom_core.specs.declared.triangles.Tri.{Tri}
use Rattle.geom_core.specs.EdgeSum.{OnRim}
use Rattle.geom_core.specs.Order.{point_cmp}
use Rattle.half_mesh.specs.declared.edges.Edge.{Edge}
use Rattle.half_mesh.specs.declared.incidences.Incidence.{Incidence}
use Rattle.half_mesh.specs.Corners.{corners_of}
use Rattle.half_mesh.specs.Incidences.{at_point, IsByPoint}
use Rattle.half_mesh.specs.Rim.{IsRimOf}

-- the corners by point with their triangles' numbers, the rim with its sums, and the rim's points
pub record IsTableOf (tris : List Tri) (corners : List (Incidence ℕ)) (numbers : List ℕ) (edges : List Edge)
    (sums : List ℤ) (points : List Pt) : Type 0 where
  pub triangle_limit : length tris ≤ MAX_SUMMED_TRIANGLES
  pub sorted : IsByPoint corners
  pub groups : (p : Pt) → at_point p corners ≡ at_point p (corners_of tris)
  pub numbered : numbers ≡ map (λ corner. corner.what) corners
  pub rim : IsRimOf tris edges sums
  pub in_order : AllPairs (λ p q. point_cmp p q ≡ Less) points
  pub on_rim : (p : Pt) → Contains points p ↔ OnRim tris p
