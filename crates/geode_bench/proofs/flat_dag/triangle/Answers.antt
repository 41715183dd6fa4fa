use Rattle.std.proofs.Common.{refl, arith}
use Rattle.geom_core.specs.EdgeSum.{same_point}
use Rattle.geom_core.specs.Limits.{has_distinct_corners}
use Rattle.geode_bench.proofs.flat_dag.triangle.Goals as goal

pub returns : goal.returns
unfolding has_distinct_corners same_point
returns c = record { triangle = record { triangle = refl; source = omega arith } }
