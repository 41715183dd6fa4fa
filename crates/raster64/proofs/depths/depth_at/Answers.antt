use Rattle.std.proofs.Common.{◌≡◌, w64, arith}
use Rattle.std.proofs.lemmas.Int.{to_z-of_z}
use Rattle.geom_core.specs.Depth.{weighted}
use Rattle.raster64.proofs.Bounds.{depth_limit}
use Rattle.raster64.proofs.Products.{weighted_size, area_size}
use Rattle.raster64.proofs.depths.depth_at.Goals as goal

pub divide-requires-clause-positive : goal.divide-requires-clause-positive
divide-requires-clause-positive g c = c.requires.plane.positive

pub divide-requires-clause-size : goal.divide-requires-clause-size
divide-requires-clause-size g c =
    let law = g.met.W.Wide in
    let m = g.W.Wide.reach in
    let at = c.requires.corners in
    let z = c.requires.depths in
    let x = to_z-of_z w64 c.args.x c.ranges.x in
    let y = to_z-of_z w64 c.args.y c.ranges.y in
    let e : g.W.Wide.int c.weighted.result ≡ weighted c.args.a c.args.b c.args.c c.args.x c.args.y = cc in
    let size = weighted_size m c.args.a c.args.b c.args.c c.args.x c.args.y at.0 at.1 at.2 c.requires.point_x
    c.requires.point_y
    (depth_limit c.args.a.z z.0) (depth_limit c.args.b.z z.1) (depth_limit c.args.c.z z.2) in
    let area = area_size m c.args.a c.args.b c.args.c at.0 at.1 at.2 in
    rw (e, c.requires.plane.area) (omega (arith, size, area, law.products))

pub returns : goal.returns
returns g c =
    let x = to_z-of_z w64 c.args.x c.ranges.x in
    let y = to_z-of_z w64 c.args.y c.ranges.y in
    let e : g.W.Wide.int c.weighted.result ≡ weighted c.args.a c.args.b c.args.c c.args.x c.args.y = cc in
    rw e at c.divide.ensures
