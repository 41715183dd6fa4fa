use Rattle.std.proofs.Common.{◌≡◌, flat_map, take}
use Rattle.shape_gen.specs.Boxes.{fan_of}
use Rattle.shape_gen.proofs.boxes.bumpy_box.Given as goal

abbrev pub invariant-loop-face : goal.invariant-loop-face
invariant-loop-face l = l.tris.items ≡ flat_map (fan_of l.number) (take l.face-index l.face-items)
