use Rattle.std.proofs.Common.{◌∙◌, All, List, subst}
use Rattle.std.proofs.lemmas.List.{take_all}
use Rattle.std.proofs.lemmas.List.Elements.{All-more}
use Rattle.geom_core.specs.declared.triangles.Tagged.{Tagged}
use Rattle.dag_core.specs.TriangleRules.{IsSourcedTriangle}
use Rattle.dag_soundness.proofs.tests.are_all_sourced.Goals as goal

pub lists-preserved : goal.lists-preserved
lists-preserved c =
    let all = subst (All (IsSourcedTriangle c.args.sources)) (c.as_slice.ensures ∙ c.list-item.is)
    (c.are_sourced.ensures.triangles c.if-not-are_sourced.false) in
    All-more (All (IsSourcedTriangle c.args.sources)) c.args.lists.now c.lists.list-index c.list-item.result
    c.lists-test.true c.lists.invariant all

pub returns : goal.returns
returns c = record {
  triangles = λ told. subst (All (All (IsSourcedTriangle c.args.sources)))
      (take_all c.lists.list-index c.args.lists.now c.lists-test.false) c.lists.invariant;
}
