use Rattle.std.proofs.Common.{◌≡◌, ◌<◌, ◌++◌, [], ◌∷◌, length, arith}
use Rattle.std.proofs.lemmas.List.Elements.{All-push, All-same}
use Rattle.geom_core.proofs.CollapseCorners.{has_corner-a, has_corner-b, has_corner-c}
use Rattle.rim_collapse.specs.Internal.Faces.{IsNumbered}
use Rattle.rim_collapse.specs.declared.faces.Face.{Face}
use Rattle.rim_collapse.proofs.FaceLaws.{corner-of_tagged, state_of-pushed}
use Rattle.rim_collapse.proofs.faces.faces_of.Goals as goal

pub face_of-requires-clause-a : goal.face_of-requires-clause-a
face_of-requires-clause-a c =
    c.requires.corners _ (corner-of_tagged c.args.tris.now c.loop-i.i _ _ c.loop-i-test.true (has_corner-a _))

pub face_of-requires-clause-b : goal.face_of-requires-clause-b
face_of-requires-clause-b c =
    c.requires.corners _ (corner-of_tagged c.args.tris.now c.loop-i.i _ _ c.loop-i-test.true (has_corner-b _))

pub face_of-requires-clause-c : goal.face_of-requires-clause-c
face_of-requires-clause-c c =
    c.requires.corners _ (corner-of_tagged c.args.tris.now c.loop-i.i _ _ c.loop-i-test.true (has_corner-c _))

pub loop-i-preserved : goal.loop-i-preserved
loop-i-preserved c =
    let faces = c.loop-i.faces.items in
    let pushed = c.push.new.self.items in
    let f = c.face_of.result in
    let n = length c.args.points.now in
    let is : f.was ≡ c.loop-i.i = c.face_of.ensures.was in
    let was : f.was < length c.args.tris.now = omega (arith, is, c.loop-i-test.true) in
    record {
      numbers = All-same (IsNumbered n) pushed (faces ++ f ∷ []) c.in_ok-push.ensures.items
          (All-push (IsNumbered n) faces f c.loop-i.invariant.numbers c.face_of.ensures.numbers);
      was = All-same (λ (g : Face). g.was < length c.args.tris.now) pushed (faces ++ f ∷ []) c.in_ok-push.ensures.items
          (All-push (λ (g : Face). g.was < length c.args.tris.now) faces f c.loop-i.invariant.was was);
      triangles = state_of-pushed c.args.tris.now c.args.points.now faces pushed c.loop-i.i _ f c.loop-i-test.true
          c.in_ok-push.ensures.items c.loop-i.invariant.triangles c.face_of.ensures.triangle is;
    }
