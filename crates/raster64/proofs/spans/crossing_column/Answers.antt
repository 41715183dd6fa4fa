use Rattle.std.proofs.Common.{◌≡◌, ◌≤◌, ◌^◌, ◌-ℤ◌, ◌*ℤ◌, unsigned_abs, w64, ap, ◌∙◌, lit<, arith}
use Rattle.std.proofs.lemmas.Int.{ints, fits_signed_from_abs}
use Rattle.geom_core.specs.Floor.{floor_div}
use Rattle.raster64.specs.Span.{crossing_column}
use Rattle.raster64.proofs.Bounds.{held_by, computed_sub}
use Rattle.raster64.proofs.Products.{difference, product_size, height_size, offset_size}
use Rattle.raster64.proofs.spans.crossing_column.Goals as goal

pub times-run-requires : goal.times-run-requires
times-run-requires g c =
    let law = g.met.W.Wide in
    let m = g.W.Wide.reach in
    let lo = c.requires.ends.0 in
    let hi = c.requires.ends.1 in
    let y = height_size m c.args.lo.y c.args.hi.y c.args.y lo.y hi.y c.requires.from c.requires.before in
    let width = c.difference.ensures ∙ difference m c.args.lo.x c.args.hi.x law.coordinates lo.x hi.x in
    let height = c.difference-2.ensures ∙ difference m c.args.y c.args.lo.y law.coordinates y lo.y in
    rw (width, height)
    (product_size m g.W.Wide.most c.args.lo.x c.args.hi.x c.args.y c.args.lo.y law.products lo.x hi.x y lo.y)

pub to_i64-requires : goal.to_i64-requires
to_i64-requires g c =
    let law = g.met.W.Wide in
    let m = g.W.Wide.reach in
    let lo = c.requires.ends.0 in
    let hi = c.requires.ends.1 in
    let y = height_size m c.args.lo.y c.args.hi.y c.args.y lo.y hi.y c.requires.from c.requires.before in
    let width = difference m c.args.lo.x c.args.hi.x law.coordinates lo.x hi.x in
    let height = difference m c.args.y c.args.lo.y law.coordinates y lo.y in
    let rise = difference m c.args.hi.y c.args.lo.y law.coordinates hi.y lo.y in
    let e : g.W.Wide.int c.quotient.result ≡ floor_div ((c.args.lo.x -ℤ c.args.hi.x) *ℤ (c.args.y -ℤ c.args.lo.y))
    (c.args.hi.y -ℤ c.args.lo.y) = cc in
    rw e (offset_size m c.args.lo c.args.hi c.args.y law.coordinates lo hi c.requires.from c.requires.before)

pub overflow_sub-result : goal.overflow_sub-result
overflow_sub-result g c =
    let law = g.met.W.Wide in
    let m = g.W.Wide.reach in
    let lo = c.requires.ends.0 in
    let hi = c.requires.ends.1 in
    let y = height_size m c.args.lo.y c.args.hi.y c.args.y lo.y hi.y c.requires.from c.requires.before in
    let width = difference m c.args.lo.x c.args.hi.x law.coordinates lo.x hi.x in
    let height = difference m c.args.y c.args.lo.y law.coordinates y lo.y in
    let rise = difference m c.args.hi.y c.args.lo.y law.coordinates hi.y lo.y in
    let e : c.to_i64.result ≡ floor_div ((c.args.lo.x -ℤ c.args.hi.x) *ℤ (c.args.y -ℤ c.args.lo.y))
    (c.args.hi.y -ℤ c.args.lo.y) = cc in
    let size : unsigned_abs c.to_i64.result ≤ 2 ^ 43 =
    rw e (offset_size m c.args.lo c.args.hi c.args.y law.coordinates lo hi c.requires.from c.requires.before) in
    let start : unsigned_abs c.args.lo.x ≤ 2 ^ 43 = omega (arith, lo.x, law.coordinates) in
    let f = held_by w64 c.args.lo.x (2 ^ 43) start (lit< tt) in
    let h = held_by w64 c.to_i64.result (2 ^ 43) size (lit< tt) in
    rw (f, h) (fits_signed_from_abs w64 (c.args.lo.x -ℤ c.to_i64.result) (omega (arith, ints)))

pub returns : goal.returns
unfolding crossing_column
returns g c =
    let law = g.met.W.Wide in
    let m = g.W.Wide.reach in
    let lo = c.requires.ends.0 in
    let hi = c.requires.ends.1 in
    let y = height_size m c.args.lo.y c.args.hi.y c.args.y lo.y hi.y c.requires.from c.requires.before in
    let width = difference m c.args.lo.x c.args.hi.x law.coordinates lo.x hi.x in
    let height = difference m c.args.y c.args.lo.y law.coordinates y lo.y in
    let rise = difference m c.args.hi.y c.args.lo.y law.coordinates hi.y lo.y in
    let e : c.to_i64.result ≡ floor_div ((c.args.lo.x -ℤ c.args.hi.x) *ℤ (c.args.y -ℤ c.args.lo.y))
    (c.args.hi.y -ℤ c.args.lo.y) = cc in
    let size : unsigned_abs c.to_i64.result ≤ 2 ^ 43 =
    rw e (offset_size m c.args.lo c.args.hi c.args.y law.coordinates lo hi c.requires.from c.requires.before) in
    let start : unsigned_abs c.args.lo.x ≤ 2 ^ 43 = omega (arith, lo.x, law.coordinates) in
    computed_sub w64 c.args.lo.x c.to_i64.result (2 ^ 43) start size (lit< tt) ∙ ap (λ z. c.args.lo.x -ℤ z) e
