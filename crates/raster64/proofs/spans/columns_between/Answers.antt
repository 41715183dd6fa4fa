use Rattle.std.proofs.Common.{◌≡◌, w64, ◌∙◌}
use Rattle.std.proofs.lemmas.Int.{to_z-of_z}
use Rattle.std.specs.Int.{int_min, int_max}
use mir.Val.{SFits}
use Rattle.raster64.proofs.CentreRanges.{range_between}
use Rattle.raster64.proofs.spans.columns_between.Goals as goal

pub returns : goal.returns
returns c =
    let p = to_z-of_z w64 c.args.p c.ranges.p in
    let q = to_z-of_z w64 c.args.q c.ranges.q in
    let low : SFits w64 c.min.result = record { sfits = c.min.type_inv } in
    let high : SFits w64 c.max.result = record { sfits = c.max.type_inv } in
    let least : c.min.result ≡ int_min c.args.p c.args.q = rw (p, q) at c.min.ensures.value in
    let greatest : c.max.result ≡ int_max c.args.p c.args.q = rw (p, q) at c.max.ensures.value in
    let from = to_z-of_z w64 c.min.result low ∙ least in
    let to = to_z-of_z w64 c.max.result high ∙ greatest in
    range_between c.args.p c.args.q c.centres_before.result c.centres_before-2.result c.args.width
    c.centres_before.ensures.limit c.centres_before-2.ensures.limit
    (rw from at c.centres_before.ensures.before) (rw from at c.centres_before.ensures.after)
    (rw to at c.centres_before-2.ensures.before) (rw to at c.centres_before-2.ensures.after)
