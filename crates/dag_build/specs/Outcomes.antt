-- What becomes of a group: how its members are simplified, whether it is terminal, and what it makes.
use Rattle.std.specs.Prelude.{◌≡◌, ◌↔◌, Bool, true, false, ◌||◌, ◌+◌, ◌*◌, ℕ, nat_lt, IsTrue, List, [], ◌∷◌, ◌++◌}
use Rattle.std.specs.Prelude.{length, map, flat_map, max, Option, Some, None, if◌then◌else◌}
use Rattle.geom_core.specs.declared.limits.TheConstants.{MAX_ERROR}
use Rattle.geom_core.specs.declared.points.Pt.{Pt}
use Rattle.geom_core.specs.declared.triangles.Tri.{Tri}
use Rattle.geom_core.specs.declared.triangles.Tagged.{Tagged}
use Rattle.geom_core.specs.Boxes.{hull_of}
use Rattle.geom_core.specs.EdgeSum.{OnRim}
use Rattle.geom_core.specs.TaggedLists.{tris_of}
use Rattle.rim_collapse.specs.declared.states.Kept.{Kept}
use Rattle.rim_collapse.specs.Legal.{is_among}
use Rattle.rim_collapse.specs.Moved.{moved_of}
use Rattle.rim_collapse.specs.Simplified.{IsSimplified}
use Rattle.rim_collapse.specs.States.{tagged_of}
use Rattle.dag_build.specs.Grouping.{AreCut, corners_of}
use Rattle.dag_build.specs.declared.level_clusters.LevelCluster.{LevelCluster}
use Rattle.dag_build.specs.declared.level_clusters.Maker.{Maker}
use Rattle.dag_build.specs.Levels.{LevelGroup, tris_in}

-- the points on the rim of the triangles, and no others
abbrev pub AreRimPoints : List Tri → List Pt → Type 0
AreRimPoints tris points = (p : Pt) → IsTrue (is_among points p) ↔ OnRim tris p

-- the error of a maker: 0 where there is none
abbrev pub maker_error : Option Maker → ℕ
maker_error None = 0
maker_error (Some maker) = maker.error

-- the greatest error of the members' makers, or 0
abbrev pub greatest_error : List LevelCluster → ℕ
greatest_error [] = 0
greatest_error (cluster ∷ clusters) = max (maker_error cluster.maker) (greatest_error clusters)

-- the two corners of a maker's box
abbrev pub box_points : Option Maker → List Pt
box_points None = []
box_points (Some maker) = maker.cube.lo ∷ maker.cube.hi ∷ []

-- the points that a group's box holds: the corners of its members' triangles and the boxes of their makers
abbrev pub points_of : List LevelCluster → List Pt
points_of members = flat_map (λ cluster. flat_map corners_of (tris_of cluster.tris) ++ box_points cluster.maker) members

-- The group makes nothing: its level has one cluster, nothing of its triangles is left, more than seven eighths of them
-- are left, or the error would be too great.
unfoldable pub is_terminal : ℕ → ℕ → ℕ → ℕ → Bool
is_terminal level_clusters tris left error =
    nat_lt level_clusters 2 || nat_lt left 1 || nat_lt (7 * tris) (8 * left) || nat_lt MAX_ERROR error

-- what is left of the members is cut into the clusters made, or, in a terminal group, nothing is made
abbrev pub AreMade : ℕ → Bool → List Tagged → List (List Tagged) → Type 0
AreMade size true left made = made ≡ []
AreMade size false left made = AreCut size left made

-- A group of a level of so many clusters: its members' triangles are simplified with the points of their rim locked.
pub record IsOutcome (size level_clusters : ℕ) (group : LevelGroup) : Type 0 where
  pub locked : List Pt
  pub rim_points : AreRimPoints (tris_of (tris_in group.members)) locked
  pub kept : List Kept
  pub simplified : IsSimplified (tris_in group.members) locked kept
  pub terminal : group.terminal ≡ is_terminal level_clusters (length (tris_in group.members)) (length kept)
      (moved_of kept + greatest_error group.members)
  pub error : group.error ≡ (if group.terminal then 0 else moved_of kept + greatest_error group.members)
  pub cube : hull_of (points_of group.members) ≡ Some group.cube
  pub made : AreMade size group.terminal (map tagged_of kept) group.made
