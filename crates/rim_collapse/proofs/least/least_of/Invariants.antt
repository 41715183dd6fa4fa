use Rattle.std.proofs.Common.{take}
use Rattle.std.specs.List.{list_any}
use Rattle.geom_core.specs.EdgeSum.{same_point}
use Rattle.rim_collapse.specs.Internal.Bests.{IsBestOf}
use Rattle.rim_collapse.specs.Internal.Faces.{point_at}
use Rattle.rim_collapse.specs.Internal.Facets.{tris_in}
use Rattle.rim_collapse.proofs.least.least_of.Given as goal

-- the best collapse to one of the targets so far
abbrev pub invariant-loop-target : goal.invariant-loop-target
invariant-loop-target l =
    IsBestOf (tris_in l.facets) l.a
    (λ q. list_any (λ n. same_point (point_at l.points n) q) (take l.target-index l.targets)) l.best
