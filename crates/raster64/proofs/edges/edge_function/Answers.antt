use Rattle.std.proofs.Common.{◌≡◌, ◌-ℤ◌, ◌∙◌}
use Rattle.geom_core.specs.Winding.{edge_function}
use Rattle.raster64.proofs.Products.{difference, product_size, edge_size}
use Rattle.raster64.proofs.edges.edge_function.Goals as goal

pub times-along-requires : goal.times-along-requires
times-along-requires g c =
    let law = g.met.W.Wide in
    let s = c.requires.from in
    let t = c.requires.to in
    let width = c.difference.ensures ∙ difference g.W.Wide.reach c.args.t.x c.args.s.x law.coordinates t.x s.x in
    let height = c.difference-2.ensures ∙ difference g.W.Wide.reach c.args.y c.args.s.y law.coordinates
    c.requires.point_y s.y in
    rw (width, height)
    (product_size g.W.Wide.reach g.W.Wide.most c.args.t.x c.args.s.x c.args.y c.args.s.y law.products t.x s.x
    c.requires.point_y s.y)

pub times-across-requires : goal.times-across-requires
times-across-requires g c =
    let law = g.met.W.Wide in
    let s = c.requires.from in
    let t = c.requires.to in
    let height = c.difference-3.ensures ∙ difference g.W.Wide.reach c.args.t.y c.args.s.y law.coordinates t.y s.y in
    let width = c.difference-4.ensures ∙ difference g.W.Wide.reach c.args.x c.args.s.x law.coordinates
    c.requires.point_x s.x in
    rw (height, width)
    (product_size g.W.Wide.reach g.W.Wide.most c.args.t.y c.args.s.y c.args.x c.args.s.x law.products t.y s.y
    c.requires.point_x s.x)

pub minus-requires : goal.minus-requires
unfolding edge_function
minus-requires g c =
    let law = g.met.W.Wide in
    let s = c.requires.from in
    let t = c.requires.to in
    let x = difference g.W.Wide.reach c.args.t.x c.args.s.x law.coordinates t.x s.x in
    let by_y = difference g.W.Wide.reach c.args.y c.args.s.y law.coordinates c.requires.point_y s.y in
    let y = difference g.W.Wide.reach c.args.t.y c.args.s.y law.coordinates t.y s.y in
    let by_x = difference g.W.Wide.reach c.args.x c.args.s.x law.coordinates c.requires.point_x s.x in
    let e : g.W.Wide.int c.times-along.result -ℤ g.W.Wide.int c.times-across.result
    ≡ edge_function c.args.s c.args.t c.args.x c.args.y = cc in
    rw e (edge_size g.W.Wide.reach g.W.Wide.most c.args.s c.args.t c.args.x c.args.y law.products s t c.requires.point_x
    c.requires.point_y)

pub returns : goal.returns
unfolding edge_function
returns g c =
    let law = g.met.W.Wide in
    let s = c.requires.from in
    let t = c.requires.to in
    let x = difference g.W.Wide.reach c.args.t.x c.args.s.x law.coordinates t.x s.x in
    let by_y = difference g.W.Wide.reach c.args.y c.args.s.y law.coordinates c.requires.point_y s.y in
    let y = difference g.W.Wide.reach c.args.t.y c.args.s.y law.coordinates t.y s.y in
    let by_x = difference g.W.Wide.reach c.args.x c.args.s.x law.coordinates c.requires.point_x s.x in
    cc
