use Rattle.std.proofs.Common.{◌<◌, All, get_or, pos, sym, subst, arith}
use Rattle.std.proofs.lemmas.List.{take_all}
use Rattle.std.proofs.lemmas.List.Elements.{All-more}
use Rattle.geom_core.specs.declared.points.Pt.{Pt}
use Rattle.geom_core.specs.declared.triangles.Tagged.{Tagged}
use Rattle.dag_core.specs.TriangleRules.{IsSourcedTriangle}
use Rattle.dag_soundness.proofs.tests.are_sourced.Goals as goal

pub tris-preserved : goal.tris-preserved
tris-preserved c =
    let origin : Pt = record { x = pos 0; y = pos 0; z = pos 0 } in
    let none : Tagged = record { tri = record { a = origin; b = origin; c = origin }; source = 0 } in
    let here : IsSourcedTriangle c.args.sources (get_or c.args.tris.now c.tris.t-index none) =
    record { triangle = sym c.if-not-is_grid_triangle.ensures; source = omega arith } in
    All-more (IsSourcedTriangle c.args.sources) c.args.tris.now c.tris.t-index none c.tris-test.true c.tris.invariant
    here

pub returns : goal.returns
returns c = record {
  triangles = λ told. subst (All (IsSourcedTriangle c.args.sources))
      (take_all c.tris.t-index c.args.tris.now c.tris-test.false) c.tris.invariant;
}
