-- Worked examples of the Morton keys, computed by the checker.
use Rattle.std.specs.Prelude.{◌≡◌, ℤ, pos, negsuc, refl}
use Rattle.geom_core.specs.declared.points.Pt.{Pt}
use Rattle.partition.specs.Morton.{interleave, cell_of, morton_of, spread_bits}

abbrev point : ℤ → ℤ → ℤ → Pt
point x y z = record { x = x; y = y; z = z }

-- x = 1, y = 2, z = 3 give bits 0, 4, 2 and 5
pub interleave_1_2_3 : interleave 21 1 2 3 ≡ 53
unfolding interleave
interleave_1_2_3 = refl

-- only the lowest bits count
pub interleave_of_one_bit : interleave 1 2 3 7 ≡ 6
unfolding interleave
interleave_of_one_bit = refl

-- 5 has the bits 0 and 2
pub spread_bits_of_5 : spread_bits 21 5 ≡ 65
unfolding spread_bits
spread_bits_of_5 = refl

pub spread_bits_of_two : spread_bits 2 5 ≡ 1
unfolding spread_bits
spread_bits_of_two = refl

-- cells are two wide, from the least coordinate on
pub cell_of_least : cell_of (negsuc 1048575) ≡ 0
unfolding cell_of
cell_of_least = refl

pub cell_of-minus_1 : cell_of (negsuc 0) ≡ 524287
unfolding cell_of
cell_of-minus_1 = refl

pub cell_of-0 : cell_of (pos 0) ≡ 524288
unfolding cell_of
cell_of-0 = refl

pub cell_of-1 : cell_of (pos 1) ≡ 524288
unfolding cell_of
cell_of-1 = refl

pub cell_of_greatest : cell_of (pos 1048576) ≡ 1048576
unfolding cell_of
cell_of_greatest = refl

-- the greatest point has the bits 60, 61 and 62
pub morton_of_greatest : morton_of (point (pos 1048576) (pos 1048576) (pos 1048576)) ≡ 8070450532247928832
unfolding morton_of cell_of interleave
morton_of_greatest = refl

-- x lies lowest, then y, then z
pub morton_of-x : morton_of (point (negsuc 1048573) (negsuc 1048575) (negsuc 1048575)) ≡ 1
unfolding morton_of cell_of interleave
morton_of-x = refl

pub morton_of-y : morton_of (point (negsuc 1048575) (negsuc 1048573) (negsuc 1048575)) ≡ 2
unfolding morton_of cell_of interleave
morton_of-y = refl

pub morton_of-z : morton_of (point (negsuc 1048575) (negsuc 1048575) (negsuc 1048573)) ≡ 4
unfolding morton_of cell_of interleave
morton_of-z = refl
