use Rattle.std.proofs.Common.{◌≡◌, true, sym, arith, below_more}
use Rattle.dag_core.specs.TriangleRules.{breaks_source}
use Rattle.dag_core.specs.Triangles.{leaf_tris_from}
use Rattle.dag_soundness.specs.declared.leaf_places.LeafPlace.TheVariants.{Missing}
use Rattle.dag_soundness.proofs.LeafLaws.{alone-one, once-at, one-at}
use Rattle.dag_soundness.proofs.NearLaws.{source-broken, source-kept}
use Rattle.dag_soundness.proofs.NumberLaws.{find_first, find_none}
use Rattle.dag_soundness.proofs.leaf_places.first_source_break.Goals as goal

pub returns-in-Missing : goal.returns-in-Missing
returns-in-Missing c =
    let dag = c.args.dag.now in
    let source = c.sources.source in
    let below = c.sources-test.true in
    let place = c.requires.places.each source Missing below in
    let broken : breaks_source dag source ≡ true =
    source-broken dag source below
    (λ one. once-at dag (leaf_tris_from dag source) _ one c.in-Missing.is place) in
    record {
      source = sym (find_first (breaks_source dag) dag.heads.sources source below c.sources.invariant broken);
    }

pub sources-preserved : goal.sources-preserved
sources-preserved c =
    let dag = c.args.dag.now in
    let source = c.sources.source in
    let below = c.sources-test.true in
    let alone = one-at dag (leaf_tris_from dag source) _ c.in-At.cluster c.in-At.triangle c.in-At.is
    (c.requires.places.each source Missing below) in
    below_more _ _ c.sources.invariant
    (source-kept dag source below (alone-one dag (leaf_tris_from dag source) c.in-At.cluster c.in-At.triangle alone))

pub returns : goal.returns
returns c = record {
  source = sym (find_none (breaks_source c.args.dag.now) c.args.dag.now.heads.sources
      (λ k below. c.sources.invariant k (omega arith)));
}
