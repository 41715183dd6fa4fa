use Rattle.std.proofs.Common.{rules, ◌≡◌, ◌∷◌, [], None, map, ap, sym, ◌∙◌, arith}
use Rattle.std.proofs.lemmas.List.{append-nil}
use Rattle.dag_build.specs.Numbers.{dag_of}
use Rattle.dag_build.proofs.NumberLaws.{none_left, numbered-clusters, numbered-dag, numbered-groups, numbered-more}
use Rattle.dag_build.proofs.NumberLaws.{numbered-none, popped, room}
use Rattle.dag_build.proofs.numbering.number_levels.Goals as goal

pub levels-init : goal.levels-init
levels-init c =
    let none = numbered-none in
    record {
      done = (
        [],
        sym (append-nil (map (λ level. level.items) c.args.levels.items)),
        record {
          groups_are = c.new.ensures.items ∙ none.groups_are;
          clusters_are = c.new-2.ensures.items ∙ none.clusters_are;
          tris_are = c.new-3.ensures.items ∙ none.tris_are;
        },
      );
    }

pub push_level-requires : goal.push_level-requires
push_level-requires c =
    let inv = c.levels.invariant.done in
    let is = popped (λ level. level.items)
    _ c.levels.levels.items c.pop.new.self.items c.in-Some.level inv.0 inv.1 c.in-Some.ensures.items in
    let here = room _ _ c.in-Some.level.items inv.0 is c.requires.levels in
    let numbered = c.levels.numbered in
    let groups = numbered-groups inv.0 numbered.groups.items numbered.clusters.items numbered.tris.items inv.2 in
    let clusters = numbered-clusters inv.0 numbered.groups.items numbered.clusters.items numbered.tris.items inv.2 in
    record {
      group_limit = omega (arith, here.groups);
      cluster_limit = omega (arith, here.clusters);
      members = here.members;
    }

pub levels-preserved : goal.levels-preserved
levels-preserved c =
    let inv = c.levels.invariant.done in
    let is = popped (λ level. level.items)
    _ c.levels.levels.items c.pop.new.self.items c.in-Some.level inv.0 inv.1 c.in-Some.ensures.items in
    record {
      done = (
        c.in-Some.level.items ∷ inv.0,
        is,
        numbered-more inv.0 c.in-Some.level.items c.levels.numbered.groups.items c.push_level.new.self.groups.items
            c.levels.numbered.clusters.items c.push_level.new.self.clusters.items c.levels.numbered.tris.items
            c.push_level.new.self.tris.items inv.2 c.in_ok-push_level.ensures.groups c.in_ok-push_level.ensures.clusters
            c.in_ok-push_level.ensures.triangles,
      );
    }

pub returns : goal.returns
returns c =
    let inv = c.levels.invariant.done in
    let none : c.pop.result ≡ None = first_of (search rules, grind rules) in
    let empty = (rw none at c.pop.ensures.cases).0 in
    let all = none_left (λ level. level.items) _ c.levels.levels.items inv.0 inv.1 (sym c.levels.levels.ok.0 ∙ empty) in
    record {
      dag = c.into_dag.ensures.dag ∙ (numbered-dag c.args.sources inv.0 c.levels.numbered.groups.items
          c.levels.numbered.clusters.items c.levels.numbered.tris.items inv.2 ∙ ap (dag_of c.args.sources) (sym all));
    }
