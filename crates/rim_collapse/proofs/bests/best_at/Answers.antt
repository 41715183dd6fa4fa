use Rattle.std.proofs.Common.{◌≡◌, ◌≤◌, ◌∙◌, true, All, length, map, sym, ap, subst}
use Rattle.std.specs.List.{list_any}
use Rattle.geom_core.specs.declared.limits.TheConstants.{TRIANGLES_PER_GROUP}
use Rattle.geom_core.specs.Corners.{has_corner}
use Rattle.geom_core.specs.EdgeSum.{same_point}
use Rattle.rim_collapse.specs.Internal.Bests.{IsBestOf}
use Rattle.rim_collapse.specs.Internal.Faces.{left, point_at, tris_at}
use Rattle.rim_collapse.specs.Internal.Facets.{IsFacet, facet_of, tris_in}
use Rattle.rim_collapse.specs.Legal.{is_among}
use Rattle.rim_collapse.proofs.AskLaws.{best-asked, round-facets, round-few, round_tris, targets-corners}
use Rattle.rim_collapse.proofs.BestLaws.{none-locked}
use Rattle.rim_collapse.proofs.StepLaws.{among-is}
use Rattle.rim_collapse.proofs.bests.best_at.Goals as goal

pub returns-then-contains-clause-best : goal.returns-then-contains-clause-best
returns-then-contains-clause-best c =
    let keys = c.args.locked.now.keys in
    let p = c.point_at-point.result in
    none-locked (tris_at c.args.points.now (left c.args.faces.now)) keys (point_at c.args.points.now c.args.n)
    (ap (is_among keys) (sym c.point_at-point.ensures) ∙ sym (among-is p keys) ∙ sym c.contains.ensures ∙
    c.if-contains.true)

pub least_of-requires-clause-facet_limit : goal.least_of-requires-clause-facet_limit
least_of-requires-clause-facet_limit c =
    subst (λ l. length l ≤ TRIANGLES_PER_GROUP) (sym (c.deref.ensures.value ∙ c.in_ok-list_round.ensures.facets))
    (round-few c.args.points.now c.args.faces.now c.args.chains.now c.args.n c.requires.mesh c.requires.number)

pub least_of-requires-clause-facets : goal.least_of-requires-clause-facets
least_of-requires-clause-facets c =
    subst (λ p. All (IsFacet p) c.deref.result.now) (sym c.point_at-point.ensures)
    (subst (All (IsFacet (point_at c.args.points.now c.args.n)))
    (sym (c.deref.ensures.value ∙ c.in_ok-list_round.ensures.facets))
    (round-facets c.args.points.now c.args.faces.now c.args.chains.now c.args.n c.requires.mesh c.requires.number))

pub least_of-requires-clause-targets : goal.least_of-requires-clause-targets
least_of-requires-clause-targets c =
    let points = c.args.points.now in
    subst (λ l. All (λ m. list_any (λ f. has_corner (point_at points m) f.tri) l ≡ true) c.deref-2.result.now)
    (sym (c.deref.ensures.value ∙ c.in_ok-list_round.ensures.facets))
    (subst (All (λ m. list_any (λ f. has_corner (point_at points m) f.tri)
    (map facet_of (round_tris points c.args.faces.now c.args.chains.now c.args.n)) ≡ true))
    (sym c.deref-2.ensures.value)
    (targets-corners points c.args.faces.now c.args.chains.now c.args.n c.list_round.new.round.targets c.requires.mesh
    c.requires.number c.in_ok-list_round.ensures.members c.in_ok-list_round.ensures.only))

pub returns-clause-best : goal.returns-clause-best
returns-clause-best c =
    let points = c.args.points.now in
    let faces = c.args.faces.now in
    let chains = c.args.chains.now in
    let keys = c.args.locked.now.keys in
    let n = c.args.n in
    let set = c.list_round.new.round.targets in
    let facets = c.deref.ensures.value ∙ c.in_ok-list_round.ensures.facets in
    best-asked points faces chains keys n set c.least_of.result c.requires.mesh c.requires.number
    c.in_ok-list_round.ensures.members c.in_ok-list_round.ensures.round
    (ap (is_among keys) (sym c.point_at-point.ensures) ∙ sym (among-is c.point_at-point.result keys) ∙
    sym c.contains.ensures ∙ c.if-contains.false)
    (subst (λ p. IsBestOf (tris_in (map facet_of (round_tris points faces chains n))) p
    (λ q. list_any (λ m. same_point (point_at points m) q) set.members.items) c.least_of.result)
    c.point_at-point.ensures
    (subst (λ l. IsBestOf (tris_in l) c.point_at-point.result
    (λ q. list_any (λ m. same_point (point_at points m) q) set.members.items) c.least_of.result) facets
    (subst (λ l. IsBestOf (tris_in c.deref.result.now) c.point_at-point.result
    (λ q. list_any (λ m. same_point (point_at points m) q) l) c.least_of.result) c.deref-2.ensures.value
    c.least_of.ensures)))
