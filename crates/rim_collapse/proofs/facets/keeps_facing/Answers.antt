use Rattle.std.proofs.Common.{◌≡◌, true, false, not, pos, sym, ap, ◌∙◌}
use Rattle.std.specs.Prelude.{int_le}
use Rattle.geom_core.specs.Collapses.{replaced}
use Rattle.geom_core.specs.Limits.{has_distinct_corners}
use Rattle.rim_collapse.specs.Normals.{dot, normal}
use Rattle.rim_collapse.proofs.FacetLaws.{HasGridCorners-replaced, back-wide, keeps_facing-left, keeps_facing-left_out}
use Rattle.rim_collapse.proofs.FacetLaws.{same_dot}
use Rattle.rim_collapse.proofs.facets.keeps_facing.Goals as goal

pub normal-requires : goal.normal-requires
normal-requires c =
    let t = c.args.facet.tri in
    rw c.replaced-moved.ensures (HasGridCorners-replaced c.args.a c.args.b t c.requires.target c.requires.facet.grid)

pub returns-then-not-has_distinct_corners : goal.returns-then-not-has_distinct_corners
returns-then-not-has_distinct_corners c =
    let t = c.args.facet.tri in
    let flat : has_distinct_corners (replaced c.args.a c.args.b t) ≡ false =
    sym (c.has_distinct_corners.ensures ∙ ap has_distinct_corners c.replaced-moved.ensures) ∙
    c.if-not-has_distinct_corners.true in
    ap not c.if-not-has_distinct_corners.true ∙ sym (keeps_facing-left_out c.args.a c.args.b t flat)

pub returns-else-not-has_distinct_corners : goal.returns-else-not-has_distinct_corners
returns-else-not-has_distinct_corners c =
    let t = c.args.facet.tri in
    let distinct : has_distinct_corners (replaced c.args.a c.args.b t) ≡ true =
    sym (c.has_distinct_corners.ensures ∙ ap has_distinct_corners c.replaced-moved.ensures) ∙
    c.if-not-has_distinct_corners.false in
    let is : c.dot.result ≡ dot (normal (replaced c.args.a c.args.b t)) (normal t) =
    c.dot.ensures.dot ∙ same_dot c.normal.result c.args.facet.normal (normal (replaced c.args.a c.args.b t)) (normal t)
    (c.normal.ensures.normal ∙ ap normal c.replaced-moved.ensures) c.requires.facet.normal in
    rw (back-wide c.dot.result c.dot.ensures.size) (ap (int_le (pos 0)) is ∙
    sym (keeps_facing-left c.args.a c.args.b t c.requires.facet.corner distinct))
