use Rattle.std.proofs.Common.{◌≡◌, ◌++◌, flat_map, take}
use Rattle.shape_gen.specs.BoxText.{vertex_line}
use Rattle.shape_gen.proofs.texts.push_vertices.Given as goal

abbrev pub invariant-loop-place : goal.invariant-loop-place
invariant-loop-place l =
    l.text.items ≡ l.fn.text.items ++ flat_map (vertex_line l.number) (take l.place-index l.places)
