-- The sides of a cube of n by n by n cells, and the faces of each side: one quadrilateral a cell, its corners
-- counterclockwise as seen from outside.
use Rattle.std.specs.Prelude.{ℕ, ◌+◌, List, ◌++◌, map, flat_map}
use Rattle.std.specs.List.{range_with_len}
use Rattle.shape_gen.specs.declared.lattice.Place.{Place}
use Rattle.shape_gen.specs.declared.sides.Axis.{Axis}
use Rattle.shape_gen.specs.declared.sides.Axis.TheVariants.{X, Y, Z}
use Rattle.shape_gen.specs.declared.sides.End.{End}
use Rattle.shape_gen.specs.declared.sides.End.TheVariants.{First, Last}
use Rattle.shape_gen.specs.declared.sides.Face.{Face}
use Rattle.shape_gen.specs.Lattice.{place}

-- the place with this depth on the axis, p on the next axis in the cycle x, y, z, and q on the one after that
abbrev pub place_on : Axis → ℕ → ℕ → ℕ → Place
place_on X depth p q = place depth p q
place_on Y depth p q = place q depth p
place_on Z depth p q = place p q depth

-- the face of the cell at p and q, on the side at one end of the axis
abbrev pub face_on : ℕ → Axis → End → ℕ → ℕ → Face
face_on n axis First p q = record {
  a = place_on axis 0 p q;
  b = place_on axis 0 p (q + 1);
  c = place_on axis 0 (p + 1) (q + 1);
  d = place_on axis 0 (p + 1) q;
}
face_on n axis Last p q = record {
  a = place_on axis n p q;
  b = place_on axis n (p + 1) q;
  c = place_on axis n (p + 1) (q + 1);
  d = place_on axis n p (q + 1);
}

-- the numbers below n
abbrev pub below : ℕ → List ℕ
below n = range_with_len 0 n

-- the faces of a row of cells, and of a side: for each p, for each q
abbrev pub row_faces : ℕ → Axis → End → ℕ → List Face
row_faces n axis end p = map (face_on n axis end p) (below n)

abbrev pub side_faces : ℕ → Axis → End → List Face
side_faces n axis end = flat_map (row_faces n axis end) (below n)

-- the faces of both sides across an axis
abbrev pub axis_faces : ℕ → Axis → List Face
axis_faces n axis = side_faces n axis First ++ side_faces n axis Last

-- the faces of the box
abbrev pub faces : ℕ → List Face
faces n = axis_faces n X ++ (axis_faces n Y ++ axis_faces n Z)
