use Rattle.std.proofs.Common.{◌≡◌, ◌≤◌, ◌*◌, [], ap, ◌∙◌, arith}
use Rattle.std.proofs.lemmas.List.{append-nil}
use Rattle.raster64.specs.Internal.Raster.{words_in}
use Rattle.raster64.proofs.Bounds.{screen_word, spot_x, spot_y, picture_sides}
use Rattle.raster64.proofs.Stretches.{words_in-above, words_in-picture, words_in-beside}
use Rattle.raster64.proofs.raster.draw.Goals as goal
use Rattle.raster64.proofs.raster.draw.Goals.{else-rows-via-then-rows+else-columns, else-rows-via-else-rows}

pub draw_boxed-requires-clause-rows : goal.draw_boxed-requires-clause-rows
draw_boxed-requires-clause-rows g c =
    let d = c.args.triangle in
    let spots = c.requires.drawable.spots in
    let a = screen_word d.a.y (spot_y d.a spots.0) in
    let b = screen_word d.b.y (spot_y d.b spots.1) in
    let third = screen_word d.c.y (spot_y d.c spots.2) in
    record {
      order = c.centre_range-rows.ensures.order;
      limit = c.centre_range-rows.ensures.limit;
      above = rw (a, b, third) at c.centre_range-rows.ensures.before;
      below = rw (a, b, third) at c.centre_range-rows.ensures.after;
    }

pub returns-else-rows-clause-shown : goal.returns-else-rows-clause-shown
returns-else-rows-clause-shown g c rest before h =
    let d = c.args.triangle in
    let spots = c.requires.drawable.spots in
    let wide = (picture_sides d.size c.requires.drawable.picture).0 in
    let rows = c.centre_range-rows.result in
    let columns = c.centre_range-columns.result in
    let a_y = screen_word d.a.y (spot_y d.a spots.0) in
    let b_y = screen_word d.b.y (spot_y d.b spots.1) in
    let c_y = screen_word d.c.y (spot_y d.c spots.2) in
    let a_x = screen_word d.a.x (spot_x d.a spots.0) in
    let b_x = screen_word d.b.x (spot_x d.b spots.1) in
    let c_x = screen_word d.c.x (spot_x d.c spots.2) in
    let above = rw (a_y, b_y, c_y) at c.centre_range-rows.ensures.before in
    let below = rw (a_y, b_y, c_y) at c.centre_range-rows.ensures.after in
    let left = rw (a_x, b_x, c_x) at c.centre_range-columns.ensures.before in
    let right = rw (a_x, b_x, c_x) at c.centre_range-columns.ensures.after in
    let no_columns : columns.end ≤ columns.first → words_in d 0 (d.size.width * d.size.height) ≡ [] =
    λ empty. words_in-beside d columns.end (d.size.width * d.size.height) wide (λ k i. left k (omega arith)) right in
    let no_rows : rows.end ≤ rows.first → words_in d 0 (d.size.width * d.size.height) ≡ [] =
    λ empty. let same : rows.end ≡ rows.first = omega (arith, c.centre_range-rows.ensures.order) in
    words_in-picture d rows.end wide c.centre_range-rows.ensures.limit below ∙
    ap (λ end. words_in d 0 (end * d.size.width)) same ∙
    words_in-above d rows.first wide above in
    let none : words_in d 0 (d.size.width * d.size.height) ≡ [] =
    elim c.else-rows.branch [
      | else-rows-via-then-rows+else-columns w ↦
          no_columns (omega arith)
      | else-rows-via-else-rows w ↦ no_rows (omega arith)
    ] in
    rw (none, append-nil before) h
