use Rattle.std.proofs.Common.{◌≡◌, ◌++◌, List, map, length}
use Rattle.dag_build.specs.Levels.{LevelGroup}
use Rattle.dag_build.proofs.NumberLaws.{AreNumbered}
use Rattle.dag_build.proofs.numbering.number_levels.Given as goal

-- the levels from some one on have numbers, and those below it are left
abbrev pub invariant-levels : goal.invariant-levels
invariant-levels l = record {
  done : (done : List (List LevelGroup))
      × (map (λ level. level.items) l.fn.levels.items ≡ map (λ level. level.items) l.levels.items ++ done)
      × AreNumbered done l.numbered.groups.items l.numbered.clusters.items l.numbered.tris.items;
}

abbrev pub decreases-levels : goal.decreases-levels
decreases-levels l = length l.levels.items
