use Rattle.std.proofs.Common.{◌≤◌, length}
use Rattle.geom_core.specs.declared.limits.TheConstants.{MAX_SUMMED_TRIANGLES}
use Rattle.geode_bench.proofs.rims.count_joined_rims.Given as goal

abbrev pub invariant-loop-rest : goal.invariant-loop-rest
invariant-loop-rest l = length l.rest ≤ MAX_SUMMED_TRIANGLES

abbrev pub decreases-loop-rest : goal.decreases-loop-rest
decreases-loop-rest l = length l.rest
