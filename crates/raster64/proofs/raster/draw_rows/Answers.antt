use Rattle.std.proofs.Common.{◌≡◌, ◌+◌, ◌*◌, ◌++◌, refl, ap, ◌∙◌, zero-add, append_assoc, arith}
use Rattle.std.proofs.lemmas.List.{append-nil}
use Rattle.raster64.specs.Internal.Raster.{words_in}
use Rattle.raster64.proofs.Bounds.{picture_sides}
use Rattle.raster64.proofs.Stretches.{words_in-append, words_in-above, words_in-picture}
use Rattle.raster64.proofs.raster.draw_rows.Goals as goal

pub rows-init : goal.rows-init
rows-init g c =
    let wide = (picture_sides c.args.triangle.size c.requires.drawable.picture).0 in
    let none = words_in-above c.args.triangle c.args.rows.first wide c.requires.rows.above in
    (refl, λ rest before h. rw (none, append-nil before) h)

pub draw_row-requires-clause-sink_size : goal.draw_row-requires-clause-sink_size
draw_row-requires-clause-sink_size g c = rw c.rows.invariant.0 c.requires.sink_size

pub rows-preserved : goal.rows-preserved
rows-preserved g c =
    let width = c.args.triangle.size.width in
    let row = c.rows.row in
    let next : (row + 1) * width ≡ row * width + width = omega arith in
    let more : words_in c.args.triangle 0 ((row + 1) * width) ≡ words_in c.args.triangle 0 (row * width)
    ++ words_in c.args.triangle (row * width) width =
    ap (words_in c.args.triangle 0) next ∙ words_in-append c.args.triangle 0 (row * width) width ∙
    ap (λ first. words_in c.args.triangle 0 (row * width) ++ words_in c.args.triangle first width)
    (zero-add (row * width)) in (
      c.draw_row.ensures.same_size ∙ c.rows.invariant.0,
      λ rest before h.
          rw (more, ← append_assoc)
          (c.draw_row.ensures.shown rest (before ++ words_in c.args.triangle 0 (row * width))
          (c.rows.invariant.1 rest before h)),
    )

pub returns-clause-same_size : goal.returns-clause-same_size
returns-clause-same_size g c = c.rows.invariant.0

pub returns-clause-shown : goal.returns-clause-shown
returns-clause-shown g c rest before h =
    let wide = (picture_sides c.args.triangle.size c.requires.drawable.picture).0 in
    let end : c.rows.row ≡ c.args.rows.end = omega (arith, c.requires.rows.order) in
    let all = words_in-picture c.args.triangle c.args.rows.end wide c.requires.rows.limit c.requires.rows.below in
    rw (all, ← end) (c.rows.invariant.1 rest before h)
