use Rattle.std.proofs.Common.{◌≡◌, ◌∷◌, [], ◌∙◌, List, get_or, pos, subst, sym}
use Rattle.geom_core.specs.declared.points.Pt.{Pt}
use Rattle.geom_core.specs.declared.triangles.Tagged.{Tagged}
use Rattle.dag_core.specs.Triangles.{leaf_tris_from}
use Rattle.dag_soundness.specs.declared.leaf_places.LeafPlace.TheVariants.{Missing}
use Rattle.dag_soundness.proofs.LeafLaws.{once-at, one-at, tris-read}
use Rattle.dag_soundness.proofs.NearLaws.{near-leaf, source-once}
use Rattle.dag_soundness.proofs.leaf_places.is_near_source.Goals as goal

pub returns-in-At : goal.returns-in-At
returns-in-At c =
    let dag = c.args.dag.now in
    let t = c.args.t in
    let found = leaf_tris_from dag t.source in
    let alone = one-at dag found _ c.in-At.cluster c.in-At.triangle c.in-At.is
    (c.requires.places.each t.source Missing c.requires.source_range) in
    let read = tris-read dag c.in-At.cluster c.as_slice.result.now c.index-as_slice-cluster.result
    c.as_slice-in-At.result.now alone.cluster_range c.as_slice.ensures c.index-as_slice-cluster.is
    c.as_slice-in-At.ensures in
    let origin : Pt = record { x = pos 0; y = pos 0; z = pos 0 } in
    let none : Tagged = record { tri = record { a = origin; b = origin; c = origin }; source = 0 } in
    let leaf : Tagged = get_or c.as_slice-in-At.result.now c.in-At.triangle none in
    let is : found ≡ leaf ∷ [] =
    subst (λ (ts : List Tagged). found ≡ get_or ts c.in-At.triangle none ∷ []) (sym read) (alone.alone none) in
    record { near = c.is_near.ensures.near ∙ sym (near-leaf dag c.args.most t leaf is) }

pub returns-in-Missing : goal.returns-in-Missing
returns-in-Missing c =
    let dag = c.args.dag.now in
    let source = c.args.t.source in
    let below = c.requires.source_range in
    absurd (once-at dag (leaf_tris_from dag source) _ (source-once dag source below (c.requires.sources source))
    c.in-Missing.is (c.requires.places.each source Missing below))
