use Rattle.std.proofs.Common.{◌≡◌, w64}
use Rattle.std.proofs.lemmas.Int.{to_z-of_z}
use Rattle.geom_core.specs.Winding.{edge_function}
use Rattle.geom_core.specs.Depth.{weighted}
use Rattle.raster64.proofs.Products.{edge_share}
use Rattle.raster64.proofs.depths.weighted.Goals as goal

pub by_depths-requires-clause-p : goal.by_depths-requires-clause-p
by_depths-requires-clause-p g c =
    let x = to_z-of_z w64 c.args.x c.ranges.x in
    let y = to_z-of_z w64 c.args.y c.ranges.y in
    let e : g.W.Wide.int c.edge_function.result ≡ edge_function c.args.b c.args.c c.args.x c.args.y = cc in
    rw e (edge_share g.W.Wide.reach g.W.Wide.most c.args.b c.args.c c.args.x c.args.y g.met.W.Wide.products
    c.requires.corners.1 c.requires.corners.2 c.requires.point_x c.requires.point_y)

pub by_depths-requires-clause-q : goal.by_depths-requires-clause-q
by_depths-requires-clause-q g c =
    let x = to_z-of_z w64 c.args.x c.ranges.x in
    let y = to_z-of_z w64 c.args.y c.ranges.y in
    let e : g.W.Wide.int c.edge_function-2.result ≡ edge_function c.args.c c.args.a c.args.x c.args.y = cc in
    rw e (edge_share g.W.Wide.reach g.W.Wide.most c.args.c c.args.a c.args.x c.args.y g.met.W.Wide.products
    c.requires.corners.2 c.requires.corners.0 c.requires.point_x c.requires.point_y)

pub by_depths-requires-clause-r : goal.by_depths-requires-clause-r
by_depths-requires-clause-r g c =
    let x = to_z-of_z w64 c.args.x c.ranges.x in
    let y = to_z-of_z w64 c.args.y c.ranges.y in
    let e : g.W.Wide.int c.edge_function-3.result ≡ edge_function c.args.a c.args.b c.args.x c.args.y = cc in
    rw e (edge_share g.W.Wide.reach g.W.Wide.most c.args.a c.args.b c.args.x c.args.y g.met.W.Wide.products
    c.requires.corners.0 c.requires.corners.1 c.requires.point_x c.requires.point_y)

pub returns : goal.returns
unfolding weighted
returns g c =
    let x = to_z-of_z w64 c.args.x c.ranges.x in
    let y = to_z-of_z w64 c.args.y c.ranges.y in
    cc
