-- What levels of detail consist of: clusters, and the groups that they are simplified in.
use Rattle.std.specs.Prelude.{Bool, ℕ, ◌+◌, List, [], ◌∷◌, ◌++◌, map, flat_map, Some, None}
use Rattle.geom_core.specs.declared.triangles.Tri.{Tri}
use Rattle.geom_core.specs.declared.triangles.Tagged.{Tagged}
use Rattle.geom_core.specs.declared.boxes.Cube.{Cube}
use Rattle.dag_build.specs.declared.level_clusters.LevelCluster.{LevelCluster}
use Rattle.dag_build.specs.declared.level_clusters.Maker.{Maker}

-- a group of a level: its members in order, what bounds them, and the triangles of each cluster that it made
pub record LevelGroup : Type 0 where
  pub members : List LevelCluster
  pub error : ℕ
  pub terminal : Bool
  pub cube : Cube
  pub made : List (List Tagged)

-- the triangles of these clusters, in order
abbrev pub tris_in : List LevelCluster → List Tagged
tris_in clusters = flat_map (λ cluster. cluster.tris) clusters

-- the clusters that the group made, where it is the one at this place of its level
abbrev pub clusters_of : ℕ → LevelGroup → List LevelCluster
clusters_of place group = let maker : Maker = record { group = place; error = group.error; cube = group.cube } in
    map (λ tris. record { tris = tris; maker = Some maker }) group.made

-- the clusters that the groups made, by group, then by batch; the first group has this place in its level
unfoldable pub made_from : ℕ → List LevelGroup → List LevelCluster
made_from place [] = []
made_from place (group ∷ groups) = clusters_of place group ++ made_from (place + 1) groups

-- the next level's clusters
abbrev pub next_clusters : List LevelGroup → List LevelCluster
next_clusters groups = made_from 0 groups

-- a cluster of source triangles
abbrev pub source_cluster : List Tagged → LevelCluster
source_cluster tris = record { tris = tris; maker = None }

-- the triangles with their numbers, counted from `first`, as sources
unfoldable pub numbered : ℕ → List Tri → List Tagged
numbered first [] = []
numbered first (t ∷ tris) = record { tri = t; source = first } ∷ numbered (first + 1) tris
