-- Worked examples: the box of one cell.
use Rattle.std.proofs.Common.{◌≡◌, pos, ◌++◌, length, codes, refl}
use Rattle.std.specs.Fmt.{digits}
use Rattle.shape_gen.specs.Boxes.{triangles_of_box}
use Rattle.shape_gen.specs.BoxText.{same_place, vertex_number, text_of_box}
use Rattle.shape_gen.specs.Lattice.{place, is_on_surface, lattice, offset, x_at, y_at, z_at, point_at}

-- with number 1 the first place moves by 1, 2 and 4 steps, and the last one by 140, 280 and 560 modulo 251
pub point_at-first : point_at 1 (place 0 0 0) ≡ record { x = pos 1; y = pos 2; z = pos 4 }
unfolding offset x_at y_at z_at
point_at-first = refl

pub point_at-last : point_at 1 (place 1 1 1) ≡ record { x = pos 2188; y = pos 2077; z = pos 2106 }
unfolding offset x_at y_at z_at
point_at-last = refl

-- a number that is 251 more makes the same box
pub point_at-same : point_at 258 (place 3 2 1) ≡ point_at 7 (place 3 2 1)
unfolding offset x_at y_at z_at
point_at-same = refl

-- a cube of two cells has one place inside
pub lattice-two : length (lattice 2) ≡ 26
unfolding is_on_surface
lattice-two = refl

pub triangles_of_box-one : length (triangles_of_box 1 0) ≡ 12
triangles_of_box-one = refl

-- the whole text of the box of one cell with number 0: eight vertices, six faces
pub text_of_box-one : text_of_box 1 0 ≡
    codes "v 0 0 0\nv 0 0 2048\nv 0 2048 0\nv 0 2048 2048\nv 2048 0 0\nv 2048 0 2048\nv 2048 2048 0\n" ++
    codes "v 2048 2048 2048\n" ++
    codes "f 1 2 4 3\nf 5 7 8 6\nf 1 5 6 2\nf 3 4 8 7\nf 1 3 7 5\nf 2 6 8 4\n"
unfolding is_on_surface offset x_at y_at z_at same_place vertex_number digits
text_of_box-one = refl
