use Rattle.std.proofs.Common.{◌≡◌, ◌++◌, flat_map, take}
use Rattle.shape_gen.specs.BoxText.{face_line}
use Rattle.shape_gen.proofs.texts.push_faces.Given as goal

abbrev pub invariant-loop-face : goal.invariant-loop-face
invariant-loop-face l =
    l.text.items ≡ l.fn.text.items ++ flat_map (face_line l.places) (take l.face-index l.faces)
