use Rattle.std.proofs.Common.{◌≡◌, ◌+◌, ◌*◌, to_z, of_z, w64, ◌∙◌, arith}
use Rattle.std.proofs.lemmas.Int.{to_z-of_z}
use Rattle.std.proofs.lemmas.List.{append-nil}
use mir.Val.{SFits}
use Rattle.raster64.specs.Internal.Centres.{centre}
use Rattle.raster64.specs.Internal.Raster.{is_covered}
use Rattle.raster64.specs.Span.{is_in_span}
use Rattle.raster64.proofs.Bounds.{spot_z, picture_sides}
use Rattle.raster64.proofs.CentreRanges.{range_same}
use Rattle.raster64.proofs.Products.{centre_size}
use Rattle.raster64.proofs.Stretches.{is_covered-span, words_in-empty}
use Rattle.raster64.proofs.raster.draw_row.Goals as goal

pub depth_at-start-requires-clause-point_x : goal.depth_at-start-requires-clause-point_x
depth_at-start-requires-clause-point_x g c =
    let sides = picture_sides c.args.triangle.size c.requires.drawable.picture in
    let end = c.covered_columns-columns.ensures.limit in
    let fits : SFits w64 c.centre_of.result = record { sfits = c.centre_of.type_inv } in
    let x : to_z w64 (of_z w64 c.centre_of.result) ≡ centre c.covered_columns-columns.result.first =
    to_z-of_z w64 c.centre_of.result fits ∙ c.centre_of.ensures in
    rw x (centre_size g.W.Wide.reach c.covered_columns-columns.result.first g.met.W.Wide.centres (omega arith))

pub depth_at-start-requires-clause-point_y : goal.depth_at-start-requires-clause-point_y
depth_at-start-requires-clause-point_y g c =
    let sides = picture_sides c.args.triangle.size c.requires.drawable.picture in
    let row = c.requires.row in
    let fits : SFits w64 c.centre_of-y.result = record { sfits = c.centre_of-y.type_inv } in
    let y : to_z w64 (of_z w64 c.centre_of-y.result) ≡ centre c.args.row =
    to_z-of_z w64 c.centre_of-y.result fits ∙ c.centre_of-y.ensures in
    rw y (centre_size g.W.Wide.reach c.args.row g.met.W.Wide.centres (omega arith))

pub draw_columns-requires-clause-columns : goal.draw_columns-requires-clause-columns
draw_columns-requires-clause-columns g c =
    let d = c.args.triangle in
    let fits : SFits w64 c.centre_of-y.result = record { sfits = c.centre_of-y.type_inv } in
    let y : to_z w64 (of_z w64 c.centre_of-y.result) ≡ centre c.args.row =
    to_z-of_z w64 c.centre_of-y.result fits ∙ c.centre_of-y.ensures in
    range_same (λ k. is_in_span d.a d.b d.c (centre k) (centre c.args.row)) (λ k.
    is_covered d (c.args.row * d.size.width + k))
    c.covered_columns-columns.result.first c.covered_columns-columns.result.end d.size.width
    (λ k h. is_covered-span d c.args.row k h) (rw y at c.covered_columns-columns.ensures)

pub draw_columns-requires-clause-start : goal.draw_columns-requires-clause-start
draw_columns-requires-clause-start g c =
    let fits_x : SFits w64 c.centre_of.result = record { sfits = c.centre_of.type_inv } in
    let fits_y : SFits w64 c.centre_of-y.result = record { sfits = c.centre_of-y.type_inv } in
    let x : to_z w64 (of_z w64 c.centre_of.result) ≡ centre c.covered_columns-columns.result.first =
    to_z-of_z w64 c.centre_of.result fits_x ∙ c.centre_of.ensures in
    let y : to_z w64 (of_z w64 c.centre_of-y.result) ≡ centre c.args.row =
    to_z-of_z w64 c.centre_of-y.result fits_y ∙ c.centre_of-y.ensures in
    rw (x, y) at c.depth_at-start.ensures

pub depth_at-start-requires-clause-depths : goal.depth_at-start-requires-clause-depths
depth_at-start-requires-clause-depths g c =
    let d = c.args.triangle in
    let spots = c.requires.drawable.spots in
    (spot_z d.a spots.0, spot_z d.b spots.1, spot_z d.c spots.2)

pub returns-else-columns-clause-shown : goal.returns-else-columns-clause-shown
returns-else-columns-clause-shown g c rest before h =
    let d = c.args.triangle in
    let fits : SFits w64 c.centre_of-y.result = record { sfits = c.centre_of-y.type_inv } in
    let y : to_z w64 (of_z w64 c.centre_of-y.result) ≡ centre c.args.row =
    to_z-of_z w64 c.centre_of-y.result fits ∙ c.centre_of-y.ensures in
    let range = range_same (λ k. is_in_span d.a d.b d.c (centre k) (centre c.args.row)) (λ k.
    is_covered d (c.args.row * d.size.width + k))
    c.covered_columns-columns.result.first c.covered_columns-columns.result.end d.size.width
    (λ k h. is_covered-span d c.args.row k h) (rw y at c.covered_columns-columns.ensures) in
    let none = words_in-empty d (c.args.row * d.size.width) c.covered_columns-columns.result.first
    c.covered_columns-columns.result.end
    d.size.width range (omega arith) in
    rw (none, append-nil before) h
