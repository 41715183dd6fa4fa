-- The Morton order of points (Morton 1966): the bits of the coordinates in turn, x lowest.
use Rattle.std.specs.Prelude.{ℕ, zero, suc, ◌+◌, ◌*◌, ◌/◌, ◌%◌, ℤ, pos, ◌+ℤ◌, unsigned_abs}
use Rattle.geom_core.specs.declared.limits.TheConstants.{MAX_COORDINATE}
use Rattle.geom_core.specs.declared.points.Pt.{Pt}
use Rattle.partition.specs.declared.keys.TheConstants.{CELL_BITS}

-- the lowest `bits` bits of x, y and z: bit i of x at 3i, of y at 3i + 1, of z at 3i + 2
unfoldable pub interleave : ℕ → ℕ → ℕ → ℕ → ℕ
interleave zero x y z = 0
interleave (suc bits) x y z = x % 2 + y % 2 * 2 + z % 2 * 4 + 8 * interleave bits (x / 2) (y / 2) (z / 2)

-- the lowest `bits` bits of n: bit i at 3i
unfoldable pub spread_bits : ℕ → ℕ → ℕ
spread_bits zero n = 0
spread_bits (suc bits) n = n % 2 + 8 * spread_bits bits (n / 2)

-- the cell of a coordinate: cells are two wide, and cell 0 begins at -MAX_COORDINATE
unfoldable pub cell_of : ℤ → ℕ
cell_of n = unsigned_abs (n +ℤ pos MAX_COORDINATE) / 2

-- the Morton key of a point: its three cells, CELL_BITS of each
unfoldable pub morton_of : Pt → ℕ
morton_of p = interleave CELL_BITS (cell_of p.x) (cell_of p.y) (cell_of p.z)
