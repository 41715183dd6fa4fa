use Rattle.std.proofs.Common.{◌≡◌, ◌||◌, Bool, true, take, sym, subst, arith}
use Rattle.std.proofs.lemmas.List.{take_all}
use Rattle.std.specs.List.{list_any}
use Rattle.geom_core.specs.declared.points.Pt.{Pt}
use Rattle.geom_core.specs.Corners.{has_corner}
use Rattle.geom_core.specs.EdgeSum.{same_point}
use Rattle.rim_collapse.specs.Internal.Bests.{IsBestOf}
use Rattle.rim_collapse.specs.Internal.Faces.{point_at}
use Rattle.rim_collapse.specs.Internal.Facets.{tris_in}
use Rattle.rim_collapse.proofs.BestLaws.{best-more}
use Rattle.rim_collapse.proofs.least.least_of.Goals as goal

pub improve-requires-clause-corner : goal.improve-requires-clause-corner
improve-requires-clause-corner c =
    subst (λ p. list_any (λ f. has_corner p f.tri) c.args.facets.now ≡ true) (sym c.point_at.ensures)
    (c.requires.targets c.loop-target.target-index _ (omega (arith, c.loop-target-test.true)))

pub loop-target-preserved : goal.loop-target-preserved
loop-target-preserved c =
    let tried : Pt → Bool = λ q. list_any (λ n. same_point (point_at c.args.points.now n) q)
    (take c.loop-target.target-index c.args.targets.now) in
    best-more (tris_in c.args.facets.now) c.args.a c.args.points.now c.args.targets.now c.loop-target.target-index 0
    c.improve.new.best c.loop-target-test.true
    (subst (λ p. IsBestOf (tris_in c.args.facets.now) c.args.a (λ q. tried q || same_point p q) c.improve.new.best)
    c.point_at.ensures (c.improve.ensures tried c.loop-target.invariant))

pub returns : goal.returns
returns c =
    subst (λ l. IsBestOf (tris_in c.args.facets.now) c.args.a
    (λ q. list_any (λ n. same_point (point_at c.args.points.now n) q) l) c.loop-target.best)
    (take_all c.loop-target.target-index c.args.targets.now (omega (arith, c.loop-target-test.false)))
    c.loop-target.invariant
