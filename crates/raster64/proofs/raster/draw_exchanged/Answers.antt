use Rattle.std.proofs.Common.{◌≡◌, ◌≢◌, ◌≤◌, ◌*◌, true, false, ℤ, pos, ◌-ℤ◌, neg_ℤ, ◌<ℤ◌, ◌≤ℤ◌, int_lt, unsigned_abs}
use Rattle.std.proofs.Common.{sym, ◌∙◌, arith}
use Rattle.std.proofs.lemmas.Int.{ints}
use Rattle.std.proofs.lemmas.List.{append-nil}
use Rattle.geom_core.specs.Winding.{edge_function}
use Rattle.raster64.proofs.Bounds.{picture_sides}
use Rattle.raster64.proofs.Exchanged.{area-exchanged, words_in-exchanged}
use Rattle.raster64.proofs.Products.{area_size}
use Rattle.raster64.proofs.Stretches.{words_in-flat}
use Rattle.raster64.proofs.raster.draw_exchanged.Goals as goal

negated : (d : ℤ) → pos 0 -ℤ d ≡ neg_ℤ d
negated d = omega (arith, ints)

positive : (d : ℤ) → int_lt (pos 0) d ≡ true → pos 0 <ℤ d
positive d h = omega (arith, ints)

-- neither it nor its negative is positive
flat : (d : ℤ) → d ≤ℤ pos 0 → int_lt (pos 0) (neg_ℤ d) ≡ false → d ≡ pos 0
flat d h i = omega (arith, ints)

nonzero : (d : ℤ) → pos 0 <ℤ neg_ℤ d → d ≢ pos 0
nonzero d h e = omega (arith, ints)

pub minus-negated-requires : goal.minus-negated-requires
minus-negated-requires g c =
    let law = g.met.W.Wide in
    let d = c.args.triangle in
    let at = c.requires.reach in
    let area = area_size g.W.Wide.reach d.a d.b d.c at.0 at.1 at.2 in
    let size : unsigned_abs (g.W.Wide.int c.args.divisor) ≤ g.W.Wide.most =
    rw c.requires.area (omega (arith, area, law.products)) in
    rw c.from_u32.ensures (omega (arith, ints, size))

pub draw_rows-requires-clause-area : goal.draw_rows-requires-clause-area
draw_rows-requires-clause-area g c =
    let int = g.W.Wide.int in
    let d = c.args.triangle in
    let e : int c.minus-negated.result ≡ neg_ℤ (edge_function d.a d.b d.c.x d.c.y) =
    c.minus-negated.ensures ∙ rw (c.from_u32.ensures, c.requires.area) (negated (edge_function d.a d.b d.c.x d.c.y)) in
    rw c.exchanged.ensures (e ∙ sym (area-exchanged d.a d.b d.c))

pub draw_rows-requires-clause-positive : goal.draw_rows-requires-clause-positive
draw_rows-requires-clause-positive g c =
    positive (g.W.Wide.int c.minus-negated.result) (sym c.is_positive.ensures ∙ c.if-is_positive.true)

pub returns-then-is_positive-clause-shown : goal.returns-then-is_positive-clause-shown
returns-then-is_positive-clause-shown g c rest before h =
    let int = g.W.Wide.int in
    let d = c.args.triangle in
    let e : int c.minus-negated.result ≡ neg_ℤ (int c.args.divisor) =
    c.minus-negated.ensures ∙ rw c.from_u32.ensures (negated (int c.args.divisor)) in
    let above = rw e at (positive (int c.minus-negated.result) (sym c.is_positive.ensures ∙ c.if-is_positive.true)) in
    let same = words_in-exchanged d 0 (d.size.width * d.size.height)
    (rw c.requires.area at (nonzero (int c.args.divisor) above)) in
    rw (← same) ((rw c.exchanged.ensures at c.draw_rows.ensures.shown) rest before h)

pub returns-else-is_positive-clause-shown : goal.returns-else-is_positive-clause-shown
returns-else-is_positive-clause-shown g c rest before h =
    let int = g.W.Wide.int in
    let d = c.args.triangle in
    let wide = (picture_sides d.size c.requires.drawable.picture).0 in
    let e : int c.minus-negated.result ≡ neg_ℤ (int c.args.divisor) =
    c.minus-negated.ensures ∙ rw c.from_u32.ensures (negated (int c.args.divisor)) in
    let zero = flat (int c.args.divisor) c.requires.not_positive
    (rw e at (sym c.is_positive.ensures ∙ c.if-is_positive.false)) in
    let none = words_in-flat d (d.size.width * d.size.height) wide (sym c.requires.area ∙ zero) in
    rw (none, append-nil before) h

pub draw_rows-requires-clause-drawable : goal.draw_rows-requires-clause-drawable
draw_rows-requires-clause-drawable g c =
    let can = c.requires.drawable in
    rw c.exchanged.ensures (record {
      spots = (can.spots.0, can.spots.2, can.spots.1);
      cluster = can.cluster;
      tri =
          can.tri;
      picture = can.picture;
    })

pub draw_rows-requires-clause-reach : goal.draw_rows-requires-clause-reach
draw_rows-requires-clause-reach g c =
    let at = c.requires.reach in
    rw c.exchanged.ensures (at.0, at.2, at.1)

pub draw_rows-requires-clause-rows : goal.draw_rows-requires-clause-rows
draw_rows-requires-clause-rows g c =
    let rows = c.requires.rows in
    rw c.exchanged.ensures
    (record {
      order = rows.order;
      limit = rows.limit;
      above = λ k h. let y = rows.above k h in (y.0, y.2, y.1);
      below = λ k h i. let y = rows.below k h i in (y.0, y.2, y.1);
    })

pub draw_rows-requires-clause-sink_size : goal.draw_rows-requires-clause-sink_size
draw_rows-requires-clause-sink_size g c = rw c.exchanged.ensures c.requires.sink_size
