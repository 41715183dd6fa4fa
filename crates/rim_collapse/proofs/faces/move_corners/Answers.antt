use Rattle.std.proofs.Common.{◌≡◌, ◌+◌, ◌/◌, ◌<◌, ◌≤◌, ℕ, Bool, true, false, cond, length, get_or, sym, ap, ◌∙◌, arith}
use Rattle.std.proofs.lemmas.List.{get_or_default, length-set}
use Rattle.std.proofs.Math.Seq.{map-set_same}
use Rattle.rim_collapse.specs.Internal.Chains.{no_face}
use Rattle.rim_collapse.specs.Internal.Faces.{face_to, has_number}
use Rattle.rim_collapse.proofs.MovedFaces.{count-moved, face_to-off, face_to-twice, moved-all, to_move-more}
use Rattle.rim_collapse.proofs.faces.move_corners.Goals as goal
use Rattle.rim_collapse.proofs.faces.move_corners.Goals.{then-is_dropped, else-is_dropped}

one : (b : Bool) → cond {A = ℕ} b 1 0 ≤ 1
one true = omega arith
one false = omega arith

pub loop-corner-preserved : goal.loop-corner-preserved
loop-corner-preserved c =
    let a = c.args.a in
    let b = c.args.b in
    let faces = c.loop-corner.faces.items in
    let i = c.loop-corner.corner-index in
    let before = c.loop-corner.invariant in
    let k = c.slot_of-in-loop-corner.result in
    let g = c.face_to-moved.result in
    let within : i < length c.args.corners.now = omega (arith, c.loop-corner-test.true) in
    let at : k ≡ get_or c.args.corners.now i 0 / 3 =
    c.slot_of-in-loop-corner.ensures ∙ ap (λ m. m / 3) (get_or_default c.args.corners.now i _ 0 within) in
    let in_faces : k < length faces = omega (arith, c.requires.corners i 0 within, at, before.size) in
    let slot : c.slot_of.result ≡ k = c.slot_of.ensures ∙ sym c.slot_of-in-loop-corner.ensures in
    let is : c.index-face.result.now ≡ get_or faces k no_face =
    c.index-face.ensures ∙ get_or_default faces c.slot_of.result _ no_face (omega (arith, slot, in_faces)) ∙
    ap (λ j. get_or faces j no_face) slot in
    let more : c.if-is_dropped.dropped ≡ c.loop-corner.dropped + cond c.is_dropped.result 1 0 =
    elim c.if-is_dropped.branch [
      | then-is_dropped w ↦ rw w.if-is_dropped.true w.dropped-is
      | else-is_dropped w ↦ rw w.if-is_dropped.false (omega (arith, w.dropped-is))
    ] in
    record {
      size = length-set faces k g ∙ before.size;
      moved = map-set_same (face_to a b) faces k g no_face
          (ap (face_to a b) c.face_to-moved.ensures ∙
          face_to-twice a b c.index-face.result.now c.requires.apart ∙ ap (face_to a b) is) ∙ before.moved;
      to_move = to_move-more faces c.args.corners.now a i 0 k (length c.args.faces.now.items) g within in_faces
          at
          (ap (has_number a) c.face_to-moved.ensures ∙ face_to-off a b c.index-face.result.now c.requires.apart)
          before.to_move;
      few = omega (arith, more, before.few, one c.is_dropped.result);
      count = count-moved faces a b k c.loop-corner.dropped c.if-is_dropped.dropped _ no_face c.index-face.result.now g
          c.is_dropped.result in_faces is c.face_to-moved.ensures c.is_dropped.ensures more before.count;
    }

pub returns-clause-faces : goal.returns-clause-faces
returns-clause-faces c =
    moved-all c.loop-corner.faces.items c.args.faces.now.items c.args.corners.now c.args.a c.args.b
    c.loop-corner.corner-index c.loop-corner.invariant.size (omega (arith, c.loop-corner-test.false))
    c.loop-corner.invariant.moved c.loop-corner.invariant.to_move
