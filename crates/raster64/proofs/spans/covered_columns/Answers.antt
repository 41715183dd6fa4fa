use Rattle.std.proofs.Common.{w64, arith}
use Rattle.std.proofs.lemmas.Int.{ints, to_z-of_z}
use Rattle.raster64.specs.Internal.Centres.{centre}
use Rattle.raster64.specs.Span.{crossing_column, is_between, is_in_span}
use Rattle.raster64.proofs.Products.{word}
use Rattle.raster64.proofs.CentreRanges.{range_same, range_none, span_first, span_second, span_third, span_but_first}
use Rattle.raster64.proofs.CentreRanges.{span_but_second, span_but_third, span_all, span_none}
use Rattle.raster64.proofs.spans.covered_columns.Goals as goal

pub returns-in-true-true-false : goal.returns-in-true-true-false
returns-in-true-true-false g c =
    let y = to_z-of_z w64 c.args.y c.ranges.y in
    let a = word g.W.Wide.reach c.args.a.y g.met.W.Wide.coordinates c.requires.corners.0.y in
    let b = word g.W.Wide.reach c.args.b.y g.met.W.Wide.coordinates c.requires.corners.1.y in
    let third = word g.W.Wide.reach c.args.c.y g.met.W.Wide.coordinates c.requires.corners.2.y in
    range_same (λ k. is_between (crossing_column c.args.a c.args.c c.args.y)
    (crossing_column c.args.b c.args.c c.args.y) (centre k))
    (λ k. is_in_span c.args.a c.args.b c.args.c (centre k) c.args.y) c.between_edges.result.first
    c.between_edges.result.end c.args.width
    (λ k limit. span_but_third c.args.a c.args.b c.args.c (centre k) c.args.y (omega (arith, ints))
    (omega (arith, ints)) (omega (arith, ints)))
    (rw y at c.between_edges.ensures)

pub returns-in-true-false-true : goal.returns-in-true-false-true
returns-in-true-false-true g c =
    let y = to_z-of_z w64 c.args.y c.ranges.y in
    let a = word g.W.Wide.reach c.args.a.y g.met.W.Wide.coordinates c.requires.corners.0.y in
    let b = word g.W.Wide.reach c.args.b.y g.met.W.Wide.coordinates c.requires.corners.1.y in
    let third = word g.W.Wide.reach c.args.c.y g.met.W.Wide.coordinates c.requires.corners.2.y in
    range_same (λ k. is_between (crossing_column c.args.a c.args.b c.args.y)
    (crossing_column c.args.c c.args.b c.args.y) (centre k))
    (λ k. is_in_span c.args.a c.args.b c.args.c (centre k) c.args.y) c.between_edges-in-true-false-true.result.first
    c.between_edges-in-true-false-true.result.end c.args.width
    (λ k limit. span_but_second c.args.a c.args.b c.args.c (centre k) c.args.y (omega (arith, ints))
    (omega (arith, ints)) (omega (arith, ints)))
    (rw y at c.between_edges-in-true-false-true.ensures)

pub returns-in-true-false-false : goal.returns-in-true-false-false
returns-in-true-false-false g c =
    let y = to_z-of_z w64 c.args.y c.ranges.y in
    let a = word g.W.Wide.reach c.args.a.y g.met.W.Wide.coordinates c.requires.corners.0.y in
    let b = word g.W.Wide.reach c.args.b.y g.met.W.Wide.coordinates c.requires.corners.1.y in
    let third = word g.W.Wide.reach c.args.c.y g.met.W.Wide.coordinates c.requires.corners.2.y in
    range_same (λ k. is_between (crossing_column c.args.a c.args.b c.args.y)
    (crossing_column c.args.a c.args.c c.args.y) (centre k))
    (λ k. is_in_span c.args.a c.args.b c.args.c (centre k) c.args.y) c.between_edges-in-true-false-false.result.first
    c.between_edges-in-true-false-false.result.end c.args.width
    (λ k limit. span_first c.args.a c.args.b c.args.c (centre k) c.args.y (omega (arith, ints)) (omega (arith, ints))
    (omega (arith, ints)))
    (rw y at c.between_edges-in-true-false-false.ensures)

pub returns-in-false-true-true : goal.returns-in-false-true-true
returns-in-false-true-true g c =
    let y = to_z-of_z w64 c.args.y c.ranges.y in
    let a = word g.W.Wide.reach c.args.a.y g.met.W.Wide.coordinates c.requires.corners.0.y in
    let b = word g.W.Wide.reach c.args.b.y g.met.W.Wide.coordinates c.requires.corners.1.y in
    let third = word g.W.Wide.reach c.args.c.y g.met.W.Wide.coordinates c.requires.corners.2.y in
    range_same (λ k. is_between (crossing_column c.args.b c.args.a c.args.y)
    (crossing_column c.args.c c.args.a c.args.y) (centre k))
    (λ k. is_in_span c.args.a c.args.b c.args.c (centre k) c.args.y) c.between_edges-in-false-true-true.result.first
    c.between_edges-in-false-true-true.result.end c.args.width
    (λ k limit. span_but_first c.args.a c.args.b c.args.c (centre k) c.args.y (omega (arith, ints))
    (omega (arith, ints)) (omega (arith, ints)))
    (rw y at c.between_edges-in-false-true-true.ensures)

pub returns-in-false-true-false : goal.returns-in-false-true-false
returns-in-false-true-false g c =
    let y = to_z-of_z w64 c.args.y c.ranges.y in
    let a = word g.W.Wide.reach c.args.a.y g.met.W.Wide.coordinates c.requires.corners.0.y in
    let b = word g.W.Wide.reach c.args.b.y g.met.W.Wide.coordinates c.requires.corners.1.y in
    let third = word g.W.Wide.reach c.args.c.y g.met.W.Wide.coordinates c.requires.corners.2.y in
    range_same (λ k. is_between (crossing_column c.args.b c.args.c c.args.y)
    (crossing_column c.args.b c.args.a c.args.y) (centre k))
    (λ k. is_in_span c.args.a c.args.b c.args.c (centre k) c.args.y) c.between_edges-in-false-true-false.result.first
    c.between_edges-in-false-true-false.result.end c.args.width
    (λ k limit. span_second c.args.a c.args.b c.args.c (centre k) c.args.y (omega (arith, ints)) (omega (arith, ints))
    (omega (arith, ints)))
    (rw y at c.between_edges-in-false-true-false.ensures)

pub returns-in-false-false-true : goal.returns-in-false-false-true
returns-in-false-false-true g c =
    let y = to_z-of_z w64 c.args.y c.ranges.y in
    let a = word g.W.Wide.reach c.args.a.y g.met.W.Wide.coordinates c.requires.corners.0.y in
    let b = word g.W.Wide.reach c.args.b.y g.met.W.Wide.coordinates c.requires.corners.1.y in
    let third = word g.W.Wide.reach c.args.c.y g.met.W.Wide.coordinates c.requires.corners.2.y in
    range_same (λ k. is_between (crossing_column c.args.c c.args.a c.args.y)
    (crossing_column c.args.c c.args.b c.args.y) (centre k))
    (λ k. is_in_span c.args.a c.args.b c.args.c (centre k) c.args.y) c.between_edges-in-false-false-true.result.first
    c.between_edges-in-false-false-true.result.end c.args.width
    (λ k limit. span_third c.args.a c.args.b c.args.c (centre k) c.args.y (omega (arith, ints)) (omega (arith, ints))
    (omega (arith, ints)))
    (rw y at c.between_edges-in-false-false-true.ensures)

pub returns-in-true-true-true : goal.returns-in-true-true-true
returns-in-true-true-true g c =
    let y = to_z-of_z w64 c.args.y c.ranges.y in
    let a = word g.W.Wide.reach c.args.a.y g.met.W.Wide.coordinates c.requires.corners.0.y in
    let b = word g.W.Wide.reach c.args.b.y g.met.W.Wide.coordinates c.requires.corners.1.y in
    let third = word g.W.Wide.reach c.args.c.y g.met.W.Wide.coordinates c.requires.corners.2.y in
    range_none (λ k. is_in_span c.args.a c.args.b c.args.c (centre k) c.args.y) c.args.width
    (λ k. span_all c.args.a c.args.b c.args.c (centre k) c.args.y (omega (arith, ints)) (omega (arith, ints))
    (omega (arith, ints)))

pub returns-in-true-true-true-2 : goal.returns-in-true-true-true-2
returns-in-true-true-true-2 g c =
    let y = to_z-of_z w64 c.args.y c.ranges.y in
    let a = word g.W.Wide.reach c.args.a.y g.met.W.Wide.coordinates c.requires.corners.0.y in
    let b = word g.W.Wide.reach c.args.b.y g.met.W.Wide.coordinates c.requires.corners.1.y in
    let third = word g.W.Wide.reach c.args.c.y g.met.W.Wide.coordinates c.requires.corners.2.y in
    range_none (λ k. is_in_span c.args.a c.args.b c.args.c (centre k) c.args.y) c.args.width
    (λ k. span_none c.args.a c.args.b c.args.c (centre k) c.args.y (omega (arith, ints)) (omega (arith, ints))
    (omega (arith, ints)))
