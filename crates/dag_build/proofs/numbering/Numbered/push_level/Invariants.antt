use Rattle.std.proofs.Common.{◌≡◌, ◌++◌, map, length}
use Rattle.std.specs.Vec.Iter.{into_iter_items, into_iter_len}
use Rattle.dag_build.specs.Numbers.{head_of, heads_from, members_in}
use Rattle.dag_build.proofs.numbering.Numbered.push_level.Given as goal

-- the groups so far have numbers
abbrev pub invariant-loop-group : goal.invariant-loop-group
invariant-loop-group l = record {
  rest : l.yielded ++ into_iter_items l.group-iterator ≡ l.fn.level.items;
  len : into_iter_len l.group-iterator ≡ length (into_iter_items l.group-iterator);
  groups : l.self.groups.items ≡ l.fn.self.groups.items ++ heads_from (length l.fn.self.clusters.items) l.yielded;
  clusters : l.self.clusters.items ≡ l.fn.self.clusters.items ++ map (head_of l.base) (members_in l.yielded);
  triangles : l.self.tris.items ≡ l.fn.self.tris.items ++ map (λ cluster. cluster.tris) (members_in l.yielded);
}
