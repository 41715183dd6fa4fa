use Rattle.std.proofs.Common.{◌≡◌, ◌<◌, ◌/◌, length, get_or, sym, ap, ◌∙◌, subst, arith}
use Rattle.geom_core.specs.Limits.{HasGridCorners}
use Rattle.std.proofs.lemmas.List.{get_or_default}
use Rattle.rim_collapse.specs.Internal.Chains.{no_face}
use Rattle.rim_collapse.specs.Internal.Faces.{tri_at}
use Rattle.rim_collapse.proofs.FacetLaws.{HasGridCorners-grid}
use Rattle.rim_collapse.proofs.RoundLaws.{left-grid}
use Rattle.rim_collapse.proofs.facets.list_facets.Goals as goal

pub facet_of-requires : goal.facet_of-requires
facet_of-requires c =
    let points = c.args.points.now in
    let faces = c.args.faces.now in
    let i = c.loop-corner.corner-index in
    let corners = c.args.corners.now in
    let in_corners : i < length corners = omega (arith, c.loop-corner-test.true) in
    let at : c.slot_of.result ≡ get_or corners i 0 / 3 =
    c.slot_of.ensures ∙ ap (λ m. m / 3) (get_or_default corners i _ 0 in_corners) in
    let within : c.slot_of.result < length faces = omega (arith, c.requires.corners i 0 in_corners, at) in
    subst HasGridCorners (sym c.tri_at.ensures)
    (HasGridCorners-grid (tri_at points (get_or faces c.slot_of.result no_face))
    (left-grid points faces c.slot_of.result no_face c.requires.triangles within
    (sym c.has_distinct_numbers.ensures ∙ c.if-has_distinct_numbers.true)))
