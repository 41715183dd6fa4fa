use Rattle.std.proofs.Common.{◌≡◌, All, arith}
use Rattle.std.proofs.lemmas.Grind.{common_steps}
use Rattle.shape_gen.specs.Boxes.{triangles_of_box}
use Rattle.shape_gen.proofs.FaceLaws.{HasPlaces, faces-places}
use Rattle.shape_gen.proofs.GridLaws.{triangles-grid}
use Rattle.shape_gen.proofs.boxes.bumpy_box.Goals as goal

pub push_fan-requires : goal.push_fan-requires
push_fan-requires c =
    let all : All HasPlaces c.deref-face-items.result.now =
    rw (c.deref-face-items.ensures.value, c.in_ok-faces.ensures) (faces-places c.args.n c.requires.size_range) in
    record { place_range = all c.loop-face.face-index _ (omega arith) }

pub returns-clause-grid : goal.returns-clause-grid
returns-clause-grid c =
    let all : c.loop-face.tris.items ≡ triangles_of_box c.args.n c.args.number = grind (arith, common_steps) in
    rw all (triangles-grid c.args.n c.args.number c.requires.size_range)
