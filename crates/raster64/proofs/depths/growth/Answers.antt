use Rattle.std.proofs.Common.{◌≡◌, ◌*ℤ◌, arith}
use Rattle.raster64.specs.Internal.Numerators.{growth}
use Rattle.raster64.proofs.Bounds.{depth_limit}
use Rattle.raster64.proofs.Products.{difference, growth_size}
use Rattle.raster64.proofs.depths.growth.Goals as goal

pub times-requires : goal.times-requires
unfolding growth
times-requires g c =
    let law = g.met.W.Wide in
    let m = g.W.Wide.reach in
    let at = c.requires.corners in
    let z = c.requires.depths in
    let p = difference m c.args.b.y c.args.c.y law.coordinates at.1.y at.2.y in
    let q = difference m c.args.c.y c.args.a.y law.coordinates at.2.y at.0.y in
    let r = difference m c.args.a.y c.args.b.y law.coordinates at.0.y at.1.y in
    let e : g.W.Wide.int c.by_depths.result *ℤ g.W.Wide.int c.from_u32.result ≡ growth c.args.a c.args.b c.args.c =
    cc in
    let size = growth_size m c.args.a c.args.b c.args.c law.centres at.0 at.1 at.2
    (depth_limit c.args.a.z z.0) (depth_limit c.args.b.z z.1) (depth_limit c.args.c.z z.2) in
    rw e (omega (arith, size, law.products))

pub returns : goal.returns
unfolding growth
returns g c =
    let law = g.met.W.Wide in
    let m = g.W.Wide.reach in
    let at = c.requires.corners in
    let p = difference m c.args.b.y c.args.c.y law.coordinates at.1.y at.2.y in
    let q = difference m c.args.c.y c.args.a.y law.coordinates at.2.y at.0.y in
    let r = difference m c.args.a.y c.args.b.y law.coordinates at.0.y at.1.y in
    cc
