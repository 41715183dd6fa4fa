use Rattle.std.proofs.Common.{◌≡◌, ◌++◌, length}
use Rattle.std.specs.Vec.Iter.{into_iter_items, into_iter_len}
use Rattle.dag_build.proofs.members.into_level_clusters.Given as goal

-- the members so far
abbrev pub invariant-loop-member : goal.invariant-loop-member
invariant-loop-member l = record {
  rest : l.yielded ++ into_iter_items l.member-iterator ≡ into_iter_items l.initial.member-iterator;
  clusters : l.clusters.items ≡ l.yielded;
  len : into_iter_len l.member-iterator ≡ length (into_iter_items l.member-iterator);
}
