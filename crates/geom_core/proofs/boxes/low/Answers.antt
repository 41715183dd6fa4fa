use Rattle.std.proofs.Common.{rules, w32, FitsSigned}
use Rattle.std.proofs.lemmas.Int.{to_z-of_z}
use Rattle.geom_core.specs.Boxes.{low_of}
use Rattle.geom_core.proofs.PointLaws.{same_parts}
use Rattle.geom_core.proofs.boxes.low.Goals as goal

pub returns : goal.returns
unfolding low_of
returns c =
    let p = c.args.p in
    let q = c.args.q in
    let px : FitsSigned w32 p.x = search rules in
    let py : FitsSigned w32 p.y = search rules in
    let pz : FitsSigned w32 p.z = search rules in
    let qx : FitsSigned w32 q.x = search rules in
    let qy : FitsSigned w32 q.y = search rules in
    let qz : FitsSigned w32 q.z = search rules in
    let x : FitsSigned w32 c.min.result = search rules in
    let y : FitsSigned w32 c.min-2.result = search rules in
    let z : FitsSigned w32 c.min-3.result = search rules in
    rw (to_z-of_z w32 c.min.result x, to_z-of_z w32 c.min-2.result y, to_z-of_z w32 c.min-3.result z)
    (same_parts _ _ _ _ _ _ (simp to_z-of_z at c.min.ensures.value) (simp to_z-of_z at c.min-2.ensures.value)
    (simp to_z-of_z at c.min-3.ensures.value))
