use Rattle.std.proofs.Common.{◌≡◌, ◌+◌, ◌++◌, ◌∷◌, [], List, map, length, ap, sym, ◌∙◌, arith}
use Rattle.std.proofs.lemmas.List.{append-nil, append_assoc, length-append, length-map, map-append}
use Rattle.std.specs.Vec.Iter.{into_iter_items}
use Rattle.geom_core.specs.declared.triangles.Tagged.{Tagged}
use Rattle.dag_core.specs.declared.cluster_heads.ClusterHead.{ClusterHead}
use Rattle.dag_core.specs.declared.groups.Group.{Group}
use Rattle.dag_build.specs.declared.level_clusters.LevelCluster.{LevelCluster}
use Rattle.dag_build.specs.Numbers.{group_head, head_of, heads_from, members_in}
use Rattle.dag_build.proofs.NumberLaws.{heads-none, heads-push, members_in-append, members_in-one}
use Rattle.dag_build.proofs.numbering.Numbered.push_level.Goals as goal

pub loop-group-init : goal.loop-group-init
loop-group-init c = record {
  rest = c.into_iter-group-iterator.ensures.into_iter_gives.0;
  len = c.into_iter-group-iterator.ensures.into_iter_gives.1 ∙ (c.args.level.ok.0 ∙ sym
      (ap length c.into_iter-group-iterator.ensures.into_iter_gives.0));
  groups = sym (ap (λ (xs : List Group). c.args.self.now.groups.items ++ xs) (heads-none
      (length c.args.self.now.clusters.items)) ∙ append-nil c.args.self.now.groups.items);
  clusters = sym (append-nil c.args.self.now.clusters.items);
  triangles = sym (append-nil c.args.self.now.tris.items);
}

pub loop-group-preserved : goal.loop-group-preserved
loop-group-preserved c =
    let inv = c.loop-group.invariant in
    let group = c.in-Some.group in
    let seen = c.loop-group.yielded in
    let first = length c.args.self.now.clusters.items in
    let base = c.len.result + c.len-2.result in
    let head : LevelCluster → ClusterHead = head_of base in
    let tris : LevelCluster → List Tagged = λ cluster. cluster.tris in
    let steps = c.in-Some.ensures.steps in
    let all : members_in (seen ++ group ∷ []) ≡ members_in seen ++ group.members =
    members_in-append seen (group ∷ []) ∙ ap (λ (xs : List LevelCluster). members_in seen ++ xs)
    (members_in-one group) in
    let count = ap length inv.clusters in
    let parts = length-append c.args.self.now.clusters.items (map head (members_in seen)) in
    let mapped = length-map (members_in seen) head in
    let at : length c.loop-group.self.clusters.items ≡ first + length (members_in seen) = omega arith in
    let here : Group = group_head (length c.loop-group.self.clusters.items) group in
    record {
      rest = append_assoc seen (group ∷ []) (into_iter_items c.next.new.self) ∙
          (ap (λ (xs : List _). seen ++ xs) (sym steps.0) ∙ inv.rest);
      len = let was = inv.len in let short = ap length steps.0 in let gone = steps.1 in omega arith;
      groups = c.in_ok-push_group.ensures.groups ∙ (ap (λ (xs : List Group). xs ++ here ∷ []) inv.groups ∙
          (append_assoc c.args.self.now.groups.items (heads_from first seen) (here ∷ []) ∙
          ap (λ (xs : List Group). c.args.self.now.groups.items ++ xs) (heads-push first
          (length c.loop-group.self.clusters.items) seen group at)));
      clusters = c.in_ok-push_group.ensures.clusters ∙ (ap (λ (xs : List ClusterHead). xs ++ map head group.members)
          inv.clusters ∙
          (append_assoc c.args.self.now.clusters.items (map head (members_in seen)) (map head group.members) ∙
          ap (λ (xs : List ClusterHead). c.args.self.now.clusters.items ++ xs)
          (sym (map-append head (members_in seen) group.members) ∙ ap (map head) (sym all))));
      triangles = c.in_ok-push_group.ensures.triangles ∙ (ap (λ (xs : List
          (List Tagged)). xs ++ map tris group.members) inv.triangles ∙
          (append_assoc c.args.self.now.tris.items (map tris (members_in seen)) (map tris group.members) ∙
          ap (λ (xs : List (List Tagged)). c.args.self.now.tris.items ++ xs)
          (sym (map-append tris (members_in seen) group.members) ∙ ap (map tris) (sym all))));
    }
