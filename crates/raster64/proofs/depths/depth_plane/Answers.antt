use Rattle.std.proofs.Common.{arith}
use Rattle.raster64.proofs.Bounds.{depth_limit}
use Rattle.raster64.proofs.Products.{growth_size, area_size}
use Rattle.raster64.proofs.depths.depth_plane.Goals as goal

pub divide-requires-clause-size : goal.divide-requires-clause-size
divide-requires-clause-size g c =
    let law = g.met.W.Wide in
    let m = g.W.Wide.reach in
    let at = c.requires.corners in
    let z = c.requires.depths in
    let size = growth_size m c.args.a c.args.b c.args.c law.centres at.0 at.1 at.2
    (depth_limit c.args.a.z z.0) (depth_limit c.args.b.z z.1) (depth_limit c.args.c.z z.2) in
    let area = area_size m c.args.a c.args.b c.args.c at.0 at.1 at.2 in
    rw (c.growth.ensures, c.requires.area) (omega (arith, size, area, law.products))

pub returns : goal.returns
returns g c = record {
  area = c.requires.area;
  positive = c.requires.positive;
  step = rw c.growth.ensures at c.divide.ensures;
}
