use Rattle.std.proofs.Common.{◌≡◌, take}
use Rattle.dag_build.specs.Levels.{numbered}
use Rattle.dag_build.proofs.cutting.number_sources.Given as goal

abbrev pub invariant-loop-source : goal.invariant-loop-source
invariant-loop-source l = l.tagged.items ≡ numbered 0 (take l.source l.tri-items)
