use Rattle.std.proofs.Common.{w64}
use Rattle.std.proofs.lemmas.Int.{to_z-of_z}
use mir.Val.{SFits}
use Rattle.raster64.proofs.spans.between_edges.Goals as goal

pub returns : goal.returns
returns g c =
    let y = to_z-of_z w64 c.args.y c.ranges.y in
    let low : SFits w64 c.crossing_column.result = record { sfits = c.crossing_column.type_inv } in
    let high : SFits w64 c.crossing_column-2.result = record { sfits = c.crossing_column-2.type_inv } in
    let p = to_z-of_z w64 c.crossing_column.result low in
    let q = to_z-of_z w64 c.crossing_column-2.result high in
    rw (← (rw y at c.crossing_column.ensures), ← (rw y at c.crossing_column-2.ensures))
    (rw (p, q) at c.columns_between.ensures)
