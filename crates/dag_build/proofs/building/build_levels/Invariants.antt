use Rattle.std.proofs.Common.{map, length}
use Rattle.dag_build.specs.Levels.{tris_in}
use Rattle.dag_build.proofs.LeadLaws.{BuiltTo}
use Rattle.dag_build.proofs.building.build_levels.Given as goal

-- the levels so far lead to a level of these clusters
abbrev pub invariant-levels : goal.invariant-levels
invariant-levels l = BuiltTo l.fn.leaves.items (map (λ level. level.items) l.levels.items) l.clusters.items

abbrev pub decreases-levels : goal.decreases-levels
decreases-levels l = length (tris_in l.clusters.items)
