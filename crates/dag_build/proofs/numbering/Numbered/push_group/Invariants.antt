use Rattle.std.proofs.Common.{◌≡◌, ◌++◌, ◌∷◌, [], map, length}
use Rattle.std.specs.Vec.Iter.{into_iter_items, into_iter_len}
use Rattle.dag_build.specs.Numbers.{group_head, head_of}
use Rattle.dag_build.proofs.numbering.Numbered.push_group.Given as goal

-- the members so far have numbers
abbrev pub invariant-loop-member : goal.invariant-loop-member
invariant-loop-member l = record {
  rest : l.yielded ++ into_iter_items l.member-iterator ≡ l.fn.group.members;
  len : into_iter_len l.member-iterator ≡ length (into_iter_items l.member-iterator);
  groups : l.self.groups.items ≡ l.fn.self.groups.items ++ group_head (length l.fn.self.clusters.items) l.fn.group ∷ [];
  clusters : l.self.clusters.items ≡ l.fn.self.clusters.items ++ map (head_of l.base) l.yielded;
  triangles : l.self.tris.items ≡ l.fn.self.tris.items ++ map (λ cluster. cluster.tris) l.yielded;
}
