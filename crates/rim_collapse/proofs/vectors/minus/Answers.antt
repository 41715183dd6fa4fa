use Rattle.std.proofs.Common.{rules, ◌^◌, ◌-ℤ◌, FitsSigned, w32}
use Rattle.rim_collapse.specs.Normals.{minus}
use Rattle.rim_collapse.proofs.Products.{offset-small, passed-difference, vector-is, vector-size}
use Rattle.rim_collapse.proofs.vectors.minus.Goals as goal

pub returns-clause-difference : goal.returns-clause-difference
unfolding minus
returns-clause-difference c =
    let p = c.args.p in
    let q = c.args.q in
    let px : FitsSigned w32 p.x = search rules in
    let py : FitsSigned w32 p.y = search rules in
    let pz : FitsSigned w32 p.z = search rules in
    let qx : FitsSigned w32 q.x = search rules in
    let qy : FitsSigned w32 q.y = search rules in
    let qz : FitsSigned w32 q.z = search rules in
    vector-is (2 ^ 21) c.difference.result c.difference-2.result c.difference-3.result
    (p.x -ℤ q.x) (p.y -ℤ q.y) (p.z -ℤ q.z) offset-small
    c.difference.ensures.size c.difference-2.ensures.size c.difference-3.ensures.size
    (passed-difference c.difference.result p.x q.x px qx c.difference.ensures.difference)
    (passed-difference c.difference-2.result p.y q.y py qy c.difference-2.ensures.difference)
    (passed-difference c.difference-3.result p.z q.z pz qz c.difference-3.ensures.difference)

pub returns-clause-size : goal.returns-clause-size
returns-clause-size c =
    vector-size (2 ^ 21) c.difference.result c.difference-2.result c.difference-3.result offset-small
    c.difference.ensures.size c.difference-2.ensures.size c.difference-3.ensures.size
