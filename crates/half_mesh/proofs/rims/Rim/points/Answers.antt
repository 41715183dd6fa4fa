use Rattle.std.proofs.Common.{Contains, ◌↔◌, sym, ◌∙◌}
use Rattle.geom_core.specs.EdgeSum.{OnRim}
use Rattle.half_mesh.specs.Rim.{ends_of}
use Rattle.half_mesh.proofs.RimLaws.{ArePointsOf, points_from_sorted, ends_on_rim}
use Rattle.half_mesh.proofs.rims.Rim.points.Goals as goal

points_are : (c : goal.After-dedup) → ArePointsOf (ends_of c.args.self.now.edges) c.dedup.new.self.items
points_are c =
    rw (sym c.self.view_is)
    (points_from_sorted (ends_of c.self.inside.edges.items) c.sort_unstable.new.self.items c.dedup.new.self.items
    (rw (c.in_ok-points.ensures, c.deref.ensures.value) at c.sort_unstable.ensures.permutation)
    c.sort_unstable.ensures.sorted c.dedup.ensures.filtered)

pub returns-clause-ascending : goal.returns-clause-ascending
returns-clause-ascending c = (points_are c).ascending

pub returns-clause-ends : goal.returns-clause-ends
returns-clause-ends c = (points_are c).same

pub returns-clause-on_rim : goal.returns-clause-on_rim
returns-clause-on_rim c tris rim p =
    let here = (points_are c).same p in
    let on = ends_on_rim tris c.args.self.now.edges c.args.self.now.sums rim p in
    (λ there. on.0 (here.0 there), λ rim_point. here.1 (on.1 rim_point))
