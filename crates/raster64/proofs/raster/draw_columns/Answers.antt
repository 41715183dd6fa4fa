use Rattle.std.proofs.Common.{◌≡◌, ◌+◌, ◌*◌, [], ◌∷◌, ◌++◌, pos, to_z, of_z, w64, refl, sym, ap, ◌∙◌, append_assoc}
use Rattle.std.proofs.Common.{arith}
use Rattle.std.proofs.lemmas.Int.{to_z-of_z}
use Rattle.std.proofs.lemmas.List.{append-nil}
use mir.Val.{SFits}
use Rattle.geom_core.specs.Depth.{weighted, depth}
use Rattle.geom_core.specs.Coverage.{word_of}
use Rattle.raster64.specs.Internal.Centres.{centre}
use Rattle.raster64.specs.Internal.Numerators.{growth}
use Rattle.raster64.specs.Internal.Raster.{words_in}
use Rattle.raster64.proofs.Bounds.{spot_z, depth_limit, picture_sides, pixel_limit}
use Rattle.raster64.proofs.DepthSteps.{weighted_next, wholes_size}
use Rattle.raster64.proofs.DrawnColumns.{column_depth, depth_size}
use Rattle.raster64.proofs.Products.{weighted_size, area_size, weighted_fits, centre_size}
use Rattle.raster64.proofs.Stretches.{words_in-append, words_in-one, draw_at-at, words_in-range, words_in-before}
use Rattle.raster64.proofs.raster.draw_columns.Goals as goal

pub columns-init : goal.columns-init
columns-init g c =
    let d = c.args.triangle in
    let none = words_in-before d (c.args.row * d.size.width) c.args.columns.first c.args.columns.end d.size.width
    c.requires.columns in
    (refl, λ rest before h. rw (none, append-nil before) h, c.requires.start)

pub to_i64-requires : goal.to_i64-requires
to_i64-requires g c =
    let int = g.W.Wide.int in
    let d = c.args.triangle in
    let plane = c.args.plane in
    let whole = column_depth d c.args.row c.columns.column c.args.columns.first c.args.columns.end (int plane.divisor)
    (int plane.step.whole) (int plane.step.rest) (int c.columns.depth.whole)
    (int c.columns.depth.rest) c.requires.columns
    (omega arith) (omega arith) c.requires.plane c.columns.invariant.2 in
    let limit = depth_size d c.args.row c.columns.column c.requires.drawable.spots in
    rw whole (omega arith)

pub overflow_cast-to_i64 : goal.overflow_cast-to_i64
overflow_cast-to_i64 g c =
    let int = g.W.Wide.int in
    let d = c.args.triangle in
    let plane = c.args.plane in
    let whole = column_depth d c.args.row c.columns.column c.args.columns.first c.args.columns.end (int plane.divisor)
    (int plane.step.whole) (int plane.step.rest) (int c.columns.depth.whole)
    (int c.columns.depth.rest) c.requires.columns
    (omega arith) (omega arith) c.requires.plane c.columns.invariant.2 in
    let limit = depth_size d c.args.row c.columns.column c.requires.drawable.spots in
    let fits : SFits w64 c.to_i64.result = record { sfits = c.to_i64.type_inv } in
    let number : to_z w64 (of_z w64 c.to_i64.result)
    ≡ pos (depth d.a d.b d.c (centre c.columns.column) (centre c.args.row)) =
    to_z-of_z w64 c.to_i64.result fits ∙ c.to_i64.ensures ∙ whole in
    rw number (tt, omega arith)

pub pack-word-requires-clause-depth_limit : goal.pack-word-requires-clause-depth_limit
pack-word-requires-clause-depth_limit g c =
    let int = g.W.Wide.int in
    let d = c.args.triangle in
    let plane = c.args.plane in
    let whole = column_depth d c.args.row c.columns.column c.args.columns.first c.args.columns.end (int plane.divisor)
    (int plane.step.whole) (int plane.step.rest) (int c.columns.depth.whole)
    (int c.columns.depth.rest) c.requires.columns
    (omega arith) (omega arith) c.requires.plane c.columns.invariant.2 in
    let limit = depth_size d c.args.row c.columns.column c.requires.drawable.spots in
    let fits : SFits w64 c.to_i64.result = record { sfits = c.to_i64.type_inv } in
    let number : to_z w64 (of_z w64 c.to_i64.result)
    ≡ pos (depth d.a d.b d.c (centre c.columns.column) (centre c.args.row)) =
    to_z-of_z w64 c.to_i64.result fits ∙ c.to_i64.ensures ∙ whole in
    rw number limit

pub overflow_mul-row : goal.overflow_mul-row
overflow_mul-row g c =
    let limit = pixel_limit c.args.triangle.size c.args.row 0 c.requires.drawable.picture c.requires.row
    (picture_sides c.args.triangle.size c.requires.drawable.picture).0 in
    omega arith

pub overflow_add-row : goal.overflow_add-row
overflow_add-row g c =
    let end = c.requires.columns.limit in
    let limit = pixel_limit c.args.triangle.size c.args.row c.columns.column c.requires.drawable.picture c.requires.row
    (omega arith) in
    omega arith

pub add-depth-requires-clause-wholes : goal.add-depth-requires-clause-wholes
add-depth-requires-clause-wholes g c =
    let int = g.W.Wide.int in
    let law = g.met.W.Wide in
    let m = g.W.Wide.reach in
    let d = c.args.triangle in
    let plane = c.args.plane in
    let at = c.requires.reach in
    let spots = c.requires.drawable.spots in
    let sides = picture_sides d.size c.requires.drawable.picture in
    let end = c.requires.columns.limit in
    let size = weighted_size m d.a d.b d.c (centre (c.columns.column + 1)) (centre c.args.row) at.0 at.1 at.2
    (centre_size m (c.columns.column + 1) law.centres (omega arith))
    (centre_size m c.args.row law.centres (omega (arith, c.requires.row)))
    (depth_limit d.a.z (spot_z d.a spots.0)) (depth_limit d.b.z (spot_z d.b spots.1))
    (depth_limit d.c.z (spot_z d.c spots.2)) in
    let sum = rw (weighted_next d.a d.b d.c c.columns.column (centre c.args.row)) at size in
    wholes_size (weighted d.a d.b d.c (centre c.columns.column) (centre c.args.row)) (growth d.a d.b d.c)
    (int plane.divisor)
    (int c.columns.depth.whole) (int c.columns.depth.rest) (int plane.step.whole) (int plane.step.rest) g.W.Wide.most
    c.requires.plane.positive c.columns.invariant.2 c.requires.plane.step
    (weighted_fits m g.W.Wide.most _ law.centres law.products sum)

pub add-depth-requires-clause-rests : goal.add-depth-requires-clause-rests
add-depth-requires-clause-rests g c =
    let law = g.met.W.Wide in
    let at = c.requires.reach in
    let d = c.args.triangle in
    let area = area_size g.W.Wide.reach d.a d.b d.c at.0 at.1 at.2 in
    rw c.requires.plane.area (omega (arith, area, law.products))

pub columns-preserved : goal.columns-preserved
columns-preserved g c =
    let int = g.W.Wide.int in
    let d = c.args.triangle in
    let plane = c.args.plane in
    let whole = column_depth d c.args.row c.columns.column c.args.columns.first c.args.columns.end (int plane.divisor)
    (int plane.step.whole) (int plane.step.rest) (int c.columns.depth.whole)
    (int c.columns.depth.rest) c.requires.columns
    (omega arith) (omega arith) c.requires.plane c.columns.invariant.2 in
    let fits : SFits w64 c.to_i64.result = record { sfits = c.to_i64.type_inv } in
    let number : to_z w64 (of_z w64 c.to_i64.result)
    ≡ pos (depth d.a d.b d.c (centre c.columns.column) (centre c.args.row)) =
    to_z-of_z w64 c.to_i64.result fits ∙ c.to_i64.ensures ∙ whole in
    let first = c.args.row * d.size.width in
    let column = c.columns.column in
    let end = c.requires.columns.limit in
    let inside = c.requires.columns.inside column (omega arith) (omega arith) in
    let word : c.pack-word.result ≡ word_of (depth d.a d.b d.c (centre column) (centre c.args.row)) d.cluster d.tri =
    rw number at c.pack-word.ensures.word in
    let one : words_in d (first + column) 1 ≡ (first + column, c.pack-word.result) ∷ [] =
    words_in-one d (first + column) inside ∙
    ap (λ put. put ∷ []) (draw_at-at d c.args.row column (omega arith) ∙ ap (λ z. (first + column, z)) (sym word)) in (
      c.put.ensures.same_size ∙ c.columns.invariant.0,
      λ rest before h.
          rw (words_in-append d first column 1, one, ← append_assoc)
          (c.put.ensures.shown rest (before ++ words_in d first column) (c.columns.invariant.1 rest before h)),
      rw (weighted_next d.a d.b d.c column (centre c.args.row))
          (c.add-depth.ensures (weighted d.a d.b d.c (centre column) (centre c.args.row))
          (growth d.a d.b d.c) c.columns.invariant.2 c.requires.plane.step),
    )

pub returns-clause-shown : goal.returns-clause-shown
returns-clause-shown g c rest before h =
    let d = c.args.triangle in
    let order = c.requires.columns.order in
    let end : c.columns.column ≡ c.args.columns.end = omega arith in
    let all = words_in-range d (c.args.row * d.size.width) c.args.columns.first c.args.columns.end d.size.width
    c.requires.columns in
    rw (all, ← end) (c.columns.invariant.1 rest before h)
