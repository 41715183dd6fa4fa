use Rattle.std.proofs.Common.{◌≡◌, take}
use Rattle.geom_core.specs.TaggedLists.{tris_of}
use Rattle.dag_soundness.proofs.edge_sums.plain_tris.Given as goal

abbrev pub invariant-loop-t : goal.invariant-loop-t
invariant-loop-t l = l.tris.items ≡ tris_of (take l.t-index l.tagged)
