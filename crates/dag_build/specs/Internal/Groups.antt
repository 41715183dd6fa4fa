-- Groups, from their parts.
use Rattle.std.specs.Prelude.{ℕ, Bool, List, []}
use Rattle.geom_core.specs.declared.boxes.Cube.{Cube}
use Rattle.geom_core.specs.declared.triangles.Tagged.{Tagged}
use Rattle.dag_build.specs.declared.level_clusters.LevelCluster.{LevelCluster}
use Rattle.dag_build.specs.Levels.{LevelGroup}

-- the group with these members, which made clusters of these triangles
abbrev pub group_of : List LevelCluster → ℕ → Bool → Cube → List (List Tagged) → LevelGroup
group_of members error terminal cube made =
    record { members = members; error = error; terminal = terminal; cube = cube; made = made }

-- the group without what it made
abbrev pub unmade : LevelGroup → LevelGroup
unmade group = group_of group.members group.error group.terminal group.cube []
