-- The lattice of a bumpy box: the places on the surface of a cube of n by n by n cells, and the point at each place.
use Rattle.std.specs.Prelude.{◌≤◌, Bool, ◌||◌, ◌==◌, ℕ, pos, ◌+◌, ◌*◌, ◌%◌, List, map, filter, flat_map}
use Rattle.std.specs.List.{range_with_len}
use Rattle.geom_core.specs.declared.points.Pt.{Pt}
use Rattle.shape_gen.specs.declared.lattice.Place.{Place}
use Rattle.shape_gen.specs.declared.lattice.TheConstants.{CELL_STEPS, MAX_BOX_SIZE, OFFSETS}

-- the number of cells along an edge of a box
pub record IsBoxSize (n : ℕ) : Type 0 where
  pub least : 1 ≤ n
  pub most : n ≤ MAX_BOX_SIZE

-- a place that some box may have
pub record IsPlace (p : Place) : Type 0 where
  pub i : p.i ≤ MAX_BOX_SIZE
  pub j : p.j ≤ MAX_BOX_SIZE
  pub k : p.k ≤ MAX_BOX_SIZE

abbrev pub place : ℕ → ℕ → ℕ → Place
place i j k = record { i = i; j = j; k = k }

-- the numbers from 0 to n
abbrev pub up_to : ℕ → List ℕ
up_to n = range_with_len 0 (n + 1)

-- a number from 0 to n is the first or the last of them
abbrev pub is_end : ℕ → ℕ → Bool
is_end n i = (i == 0) || (i == n)

-- the place is on a side of the cube
unfoldable pub is_on_surface : ℕ → Place → Bool
is_on_surface n p = is_end n p.i || (is_end n p.j || is_end n p.k)

-- the places of a row along the third axis, of a layer across the first axis, and of the whole cube
abbrev pub row_places : ℕ → ℕ → ℕ → List Place
row_places n i j = map (place i j) (up_to n)

abbrev pub layer_places : ℕ → ℕ → List Place
layer_places n i = flat_map (row_places n i) (up_to n)

abbrev pub cube_places : ℕ → List Place
cube_places n = flat_map (layer_places n) (up_to n)

-- the places of the lattice, ascending by i, then j, then k
abbrev pub lattice : ℕ → List Place
lattice n = filter (is_on_surface n) (cube_places n)

-- how far the box's number moves the point at a place along the first axis
unfoldable pub offset : ℕ → Place → ℕ
offset number p = ((number % OFFSETS) * ((7 * p.i + (31 * p.j + (101 * p.k + 1))) % OFFSETS)) % OFFSETS

-- the coordinates of the point at a place: CELL_STEPS grid steps a cell, and the offset once, twice and four times
unfoldable pub x_at : ℕ → Place → ℕ
x_at number p = CELL_STEPS * p.i + offset number p

unfoldable pub y_at : ℕ → Place → ℕ
y_at number p = CELL_STEPS * p.j + (2 * offset number p) % OFFSETS

unfoldable pub z_at : ℕ → Place → ℕ
z_at number p = CELL_STEPS * p.k + (4 * offset number p) % OFFSETS

abbrev pub point_at : ℕ → Place → Pt
point_at number p = record { x = pos (x_at number p); y = pos (y_at number p); z = pos (z_at number p) }
