use Rattle.std.proofs.Common.{◌^◌, ◌-ℤ◌, ◌*ℤ◌}
use Rattle.rim_collapse.specs.Normals.{cross}
use Rattle.rim_collapse.proofs.Products.{normal-small, offset-small, passed-component, vector-is, vector-size}
use Rattle.rim_collapse.proofs.vectors.cross.Goals as goal

pub returns-clause-cross : goal.returns-clause-cross
unfolding cross
returns-clause-cross c =
    let u = c.args.u in
    let v = c.args.v in
    vector-is (2 ^ 43) c.cross_component.result c.cross_component-2.result c.cross_component-3.result
    (u.y *ℤ v.z -ℤ u.z *ℤ v.y) (u.z *ℤ v.x -ℤ u.x *ℤ v.z) (u.x *ℤ v.y -ℤ u.y *ℤ v.x) normal-small
    c.cross_component.ensures.size c.cross_component-2.ensures.size c.cross_component-3.ensures.size
    (passed-component (2 ^ 21) c.cross_component.result u.y u.z v.y v.z offset-small c.requires.u.y c.requires.u.z
    c.requires.v.y c.requires.v.z c.cross_component.ensures.component)
    (passed-component (2 ^ 21) c.cross_component-2.result u.z u.x v.z v.x offset-small c.requires.u.z c.requires.u.x
    c.requires.v.z c.requires.v.x c.cross_component-2.ensures.component)
    (passed-component (2 ^ 21) c.cross_component-3.result u.x u.y v.x v.y offset-small c.requires.u.x c.requires.u.y
    c.requires.v.x c.requires.v.y c.cross_component-3.ensures.component)

pub returns-clause-size : goal.returns-clause-size
returns-clause-size c =
    vector-size (2 ^ 43) c.cross_component.result c.cross_component-2.result c.cross_component-3.result normal-small
    c.cross_component.ensures.size c.cross_component-2.ensures.size c.cross_component-3.ensures.size
