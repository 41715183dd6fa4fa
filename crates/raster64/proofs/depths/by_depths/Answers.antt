use Rattle.std.proofs.Common.{◌≡◌, ◌+ℤ◌, ◌*ℤ◌, pos}
use Rattle.raster64.specs.Internal.Numerators.{by_depths}
use Rattle.raster64.proofs.Bounds.{depth_limit}
use Rattle.raster64.proofs.Products.{two_shares, three_shares}
use Rattle.raster64.proofs.depths.by_depths.Goals as goal

pub plus-requires : goal.plus-requires
plus-requires g c =
    let int = g.W.Wide.int in
    let z = c.requires.depths in
    let e : int c.times.result +ℤ int c.times-2.result
    ≡ int c.args.p *ℤ pos c.args.a.z +ℤ int c.args.q *ℤ pos c.args.b.z = cc in
    rw e (two_shares g.W.Wide.most (int c.args.p) (int c.args.q) c.args.a.z c.args.b.z (depth_limit c.args.a.z z.0)
    (depth_limit c.args.b.z z.1)
    c.requires.p c.requires.q)

pub plus-requires-2 : goal.plus-requires-2
plus-requires-2 g c =
    let int = g.W.Wide.int in
    let z = c.requires.depths in
    let e : int c.plus.result +ℤ int c.times-3.result
    ≡ by_depths c.args.a c.args.b c.args.c (int c.args.p) (int c.args.q) (int c.args.r) = cc in
    rw e (three_shares g.W.Wide.most c.args.a c.args.b c.args.c (int c.args.p) (int c.args.q) (int c.args.r)
    (depth_limit c.args.a.z z.0) (depth_limit c.args.b.z z.1)
    (depth_limit c.args.c.z z.2) c.requires.p c.requires.q c.requires.r)
