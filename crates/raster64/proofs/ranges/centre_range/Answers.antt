use Rattle.std.proofs.Common.{w64, arith}
use Rattle.std.proofs.lemmas.Int.{ints, to_z-of_z}
use mir.Val.{SFits}
use Rattle.raster64.proofs.CentreRanges.{ordered}
use Rattle.raster64.proofs.ranges.centre_range.Goals as goal

pub returns-clause-order : goal.returns-clause-order
returns-clause-order c =
    let low : SFits w64 c.min-2.result = record { sfits = c.min-2.type_inv } in
    let high : SFits w64 c.max-2.result = record { sfits = c.max-2.type_inv } in
    let end = c.centres_before-2.result in
    ordered c.centres_before.result end c.args.count c.min-2.result c.max-2.result c.centres_before.ensures.limit
    (omega (
      arith,
      ints,
      c.min.ensures.self_bound,
      c.min-2.ensures.self_bound,
      c.max.ensures.self_bound,
      c.max-2.ensures.self_bound,
    ))
    (λ h. rw to_z-of_z at (c.centres_before.ensures.before end h))
    (λ h. rw to_z-of_z at (c.centres_before-2.ensures.after end (omega arith) h))

pub returns-clause-before : goal.returns-clause-before
returns-clause-before c k h =
    let low : SFits w64 c.min-2.result = record { sfits = c.min-2.type_inv } in
    let one : SFits w64 c.min.result = record { sfits = c.min.type_inv } in
    let b = c.centres_before.ensures.before k h in
    (omega (arith, ints), omega (arith, ints), omega (arith, ints))

pub returns-clause-after : goal.returns-clause-after
returns-clause-after c k h i =
    let high : SFits w64 c.max-2.result = record { sfits = c.max-2.type_inv } in
    let one : SFits w64 c.max.result = record { sfits = c.max.type_inv } in
    let b = c.centres_before-2.ensures.after k h i in
    (omega (arith, ints), omega (arith, ints), omega (arith, ints))
