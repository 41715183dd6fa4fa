-- The triangles of a bumpy box: each face as a fan round its first corner.
use Rattle.std.specs.Prelude.{ℕ, List, [], ◌∷◌, flat_map}
use Rattle.geom_core.specs.declared.triangles.Tri.{Tri}
use Rattle.shape_gen.specs.declared.sides.Face.{Face}
use Rattle.shape_gen.specs.Lattice.{point_at}
use Rattle.shape_gen.specs.Sides.{faces}

-- the two triangles of a face
abbrev pub fan_of : ℕ → Face → List Tri
fan_of number f =
    record { a = point_at number f.a; b = point_at number f.b; c = point_at number f.c }
    ∷ record { a = point_at number f.a; b = point_at number f.c; c = point_at number f.d } ∷ []

-- the triangles of the box
abbrev pub triangles_of_box : ℕ → ℕ → List Tri
triangles_of_box n number = flat_map (fan_of number) (faces n)
