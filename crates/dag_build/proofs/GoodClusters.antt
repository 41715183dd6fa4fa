-- Clusters and groups of the levels of a mesh: what holds of each.
use Rattle.std.proofs.Common.{◌≡◌, ◌<◌, ◌≤◌, pos, ℕ, true, false, List, [], length, get_or, All, Option, None, Some}
use Rattle.std.specs.Bool.{⊤}
use Rattle.geom_core.specs.declared.limits.TheConstants.{CLUSTERS_PER_GROUP, MAX_ERROR}
use Rattle.geom_core.specs.declared.points.Pt.{Pt}
use Rattle.geom_core.specs.declared.triangles.Tri.{Tri}
use Rattle.geom_core.specs.declared.triangles.Tagged.{Tagged}
use Rattle.geom_core.specs.Boxes.{holds_box}
use Rattle.geom_core.specs.Limits.{IsGridTriangle}
use Rattle.geom_core.specs.Shift.{shift_of}
use Rattle.dag_core.specs.Ranges.{is_group_box}
use Rattle.dag_build.specs.declared.level_clusters.LevelCluster.{LevelCluster}
use Rattle.dag_build.specs.declared.level_clusters.Maker.{Maker}
use Rattle.dag_build.specs.Grouping.{no_triangle}
use Rattle.dag_build.specs.Levels.{LevelGroup}
use Rattle.dag_build.specs.Outcomes.{maker_error}
use Rattle.dag_build.specs.Internal.DoneLevels.{IsProper}

-- in the place of a group that isn't there
abbrev pub no_level_group : LevelGroup
no_level_group = let origin : Pt = record { x = pos 0; y = pos 0; z = pos 0 } in
    record { members = []; error = 0; terminal = true; cube = record { lo = origin; hi = origin }; made = [] }

-- the group at the place
abbrev pub group_of_level : List LevelGroup → ℕ → LevelGroup
group_of_level groups place = get_or groups place no_level_group

-- the maker is one of these groups, and that made clusters
pub record IsMakerIn (groups : List LevelGroup) (maker : Maker) : Type 0 where
  pub within : maker.group < length groups
  pub goes_on : (group_of_level groups maker.group).terminal ≡ false
  pub error : (group_of_level groups maker.group).error ≡ maker.error
  pub cube : (group_of_level groups maker.group).cube ≡ maker.cube

-- the maker is one of these groups; where there are none, there is no maker
abbrev pub HasMaker : List LevelGroup → Option Maker → Type 0
HasMaker groups None = groups ≡ []
HasMaker groups (Some maker) = IsMakerIn groups maker

-- a triangle of a mesh, near to the one with its source
pub record IsNear (tris : List Tri) (error : ℕ) (t : Tagged) : Type 0 where
  pub grid : IsGridTriangle t.tri
  pub within : t.source < length tris
  pub near : shift_of t.tri (get_or tris t.source no_triangle.tri) ≤ error

abbrev pub IsGoodMaker : Option Maker → Type 0
IsGoodMaker None = ⊤
IsGoodMaker (Some maker) = is_group_box maker.cube ≡ true

-- a cluster of a level of a mesh with these triangles
pub record IsGood (tris : List Tri) (cluster : LevelCluster) : Type 0 where
  pub proper : IsProper cluster
  pub near : All (IsNear tris (maker_error cluster.maker)) cluster.tris
  pub maker : IsGoodMaker cluster.maker

-- the group's error and box bound those of a maker of a member
pub record IsBoundOf (group : LevelGroup) (maker : Maker) : Type 0 where
  pub error : group.terminal ≡ false → maker.error ≤ group.error
  pub cube : holds_box group.cube maker.cube ≡ true

abbrev pub IsBound : LevelGroup → Option Maker → Type 0
IsBound group None = ⊤
IsBound group (Some maker) = IsBoundOf group maker

-- a group of a level
pub record IsGoodGroup (group : LevelGroup) : Type 0 where
  pub some : 1 ≤ length group.members
  pub member_limit : length group.members ≤ CLUSTERS_PER_GROUP
  pub error_limit : group.error ≤ MAX_ERROR
  pub box : is_group_box group.cube ≡ true
  pub bounds : All (λ member. IsBound group member.maker) group.members
