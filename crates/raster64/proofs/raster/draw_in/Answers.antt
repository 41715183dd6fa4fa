use Rattle.std.proofs.Common.{◌≡◌, true, false, ℤ, pos, ◌<ℤ◌, ◌≤ℤ◌, int_lt, sym, ◌∙◌, arith}
use Rattle.std.proofs.lemmas.Int.{ints}
use Rattle.raster64.proofs.Products.{word}
use Rattle.raster64.proofs.raster.draw_in.Goals as goal

positive : (d : ℤ) → int_lt (pos 0) d ≡ true → pos 0 <ℤ d
positive d h = omega (arith, ints)

not_positive : (d : ℤ) → int_lt (pos 0) d ≡ false → d ≤ℤ pos 0
not_positive d h = omega (arith, ints)

pub draw_rows-requires-clause-area : goal.draw_rows-requires-clause-area
draw_rows-requires-clause-area g c =
    let third = c.requires.reach.2 in
    let x = word g.W.Wide.reach c.args.triangle.c.x g.met.W.Wide.coordinates third.x in
    let y = word g.W.Wide.reach c.args.triangle.c.y g.met.W.Wide.coordinates third.y in
    rw (x, y) at c.edge_function-divisor.ensures

pub draw_exchanged-requires-clause-area : goal.draw_exchanged-requires-clause-area
draw_exchanged-requires-clause-area g c =
    let third = c.requires.reach.2 in
    let x = word g.W.Wide.reach c.args.triangle.c.x g.met.W.Wide.coordinates third.x in
    let y = word g.W.Wide.reach c.args.triangle.c.y g.met.W.Wide.coordinates third.y in
    rw (x, y) at c.edge_function-divisor.ensures

pub edge_function-divisor-requires-clause-point_x : goal.edge_function-divisor-requires-clause-point_x
edge_function-divisor-requires-clause-point_x g c =
    let third = c.requires.reach.2 in
    rw (word g.W.Wide.reach c.args.triangle.c.x g.met.W.Wide.coordinates third.x) third.x

pub edge_function-divisor-requires-clause-point_y : goal.edge_function-divisor-requires-clause-point_y
edge_function-divisor-requires-clause-point_y g c =
    let third = c.requires.reach.2 in
    rw (word g.W.Wide.reach c.args.triangle.c.y g.met.W.Wide.coordinates third.y) third.y

pub draw_rows-requires-clause-positive : goal.draw_rows-requires-clause-positive
draw_rows-requires-clause-positive g c = positive (g.W.Wide.int c.edge_function-divisor.result)
    (sym c.is_positive.ensures ∙ c.if-is_positive.true)

pub draw_exchanged-requires-clause-not_positive : goal.draw_exchanged-requires-clause-not_positive
draw_exchanged-requires-clause-not_positive g c =
    not_positive (g.W.Wide.int c.edge_function-divisor.result) (sym c.is_positive.ensures ∙ c.if-is_positive.false)
