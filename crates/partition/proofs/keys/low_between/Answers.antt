use Rattle.std.proofs.Common.{rules, ◌∙◌, w32, FitsSigned, to_z, of_z}
use Rattle.std.proofs.lemmas.Int.{to_z-of_z}
use Rattle.geom_core.specs.declared.points.Pt.{Pt}
use Rattle.geom_core.specs.Boxes.{low_of}
use Rattle.partition.proofs.SameEdges.{same_points}
use Rattle.partition.proofs.keys.low_between.Goals as goal

pub returns-clause-corner : goal.returns-clause-corner
unfolding low_of
returns-clause-corner c =
    let px : FitsSigned w32 c.args.p.x = search rules in
    let py : FitsSigned w32 c.args.p.y = search rules in
    let pz : FitsSigned w32 c.args.p.z = search rules in
    let qx : FitsSigned w32 c.args.q.x = search rules in
    let qy : FitsSigned w32 c.args.q.y = search rules in
    let qz : FitsSigned w32 c.args.q.z = search rules in
    let x : FitsSigned w32 c.lesser.result = search rules in
    let y : FitsSigned w32 c.lesser-2.result = search rules in
    let z : FitsSigned w32 c.lesser-3.result = search rules in
    let ex = simp to_z-of_z at c.lesser.ensures.lesser in
    let ey = simp to_z-of_z at c.lesser-2.ensures.lesser in
    let ez = simp to_z-of_z at c.lesser-3.ensures.lesser in
    let low : Pt =
    record {
      x = to_z w32 (of_z w32 c.lesser.result);
      y = to_z w32 (of_z w32 c.lesser-2.result);
      z = to_z w32 (of_z w32 c.lesser-3.result);
    } in
    same_points low (low_of c.args.p c.args.q) (to_z-of_z w32 c.lesser.result x ∙ ex)
    (to_z-of_z w32 c.lesser-2.result y ∙ ey) (to_z-of_z w32 c.lesser-3.result z ∙ ez)
