use Rattle.std.proofs.Common.{arith}
use Rattle.std.proofs.lemmas.Int.{ints}
use Rattle.view_camera.proofs.MadeCameras.{in_ranges, view_of-made, IsCamera-made}
use Rattle.view_camera.proofs.cameras.from_numbers.Goals as goal

pub overflow_cast-result : goal.overflow_cast-result
overflow_cast-result c =
    let r = in_ranges c.args.numbers.now c.told-numbers c.requires in (omega (arith, ints), omega (arith, ints))

pub overflow_cast-result-2 : goal.overflow_cast-result-2
overflow_cast-result-2 c =
    let r = in_ranges c.args.numbers.now c.told-numbers c.requires in (omega (arith, ints), omega (arith, ints))

pub overflow_cast-result-3 : goal.overflow_cast-result-3
overflow_cast-result-3 c =
    let r = in_ranges c.args.numbers.now c.told-numbers c.requires in (omega (arith, ints), omega (arith, ints))

pub overflow_cast-result-4 : goal.overflow_cast-result-4
overflow_cast-result-4 c = let r = in_ranges c.args.numbers.now c.told-numbers c.requires in omega (arith, ints)

pub overflow_cast-result-5 : goal.overflow_cast-result-5
overflow_cast-result-5 c = let r = in_ranges c.args.numbers.now c.told-numbers c.requires in omega (arith, ints)

pub overflow_cast-result-6 : goal.overflow_cast-result-6
overflow_cast-result-6 c = let r = in_ranges c.args.numbers.now c.told-numbers c.requires in omega (arith, ints)

pub row_at-requires-clause-entries : goal.row_at-requires-clause-entries
row_at-requires-clause-entries c = (in_ranges c.args.numbers.now c.told-numbers c.requires).rows

pub row_at-requires-2-clause-entries : goal.row_at-requires-2-clause-entries
row_at-requires-2-clause-entries c = (in_ranges c.args.numbers.now c.told-numbers c.requires).rows

pub row_at-requires-3-clause-entries : goal.row_at-requires-3-clause-entries
row_at-requires-3-clause-entries c = (in_ranges c.args.numbers.now c.told-numbers c.requires).rows

pub invariant_of-result : goal.invariant_of-result
invariant_of-result c =
    IsCamera-made c.args.numbers.now c.row_at.result c.row_at-2.result c.row_at-3.result
    (in_ranges c.args.numbers.now c.told-numbers c.requires) c.row_at.ensures c.row_at-2.ensures c.row_at-3.ensures

pub returns : goal.returns
returns c =
    view_of-made c.args.numbers.now c.row_at.result c.row_at-2.result c.row_at-3.result
    (in_ranges c.args.numbers.now c.told-numbers c.requires) c.row_at.ensures c.row_at-2.ensures c.row_at-3.ensures
