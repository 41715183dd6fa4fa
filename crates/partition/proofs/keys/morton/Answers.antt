-- Each cell's bits, spread apart, alternate in the key.
use Rattle.std.proofs.Common.{◌≡◌, arith, ap, rules, w32, FitsSigned}
use Rattle.std.proofs.lemmas.Int.{to_z-of_z}
use Rattle.partition.specs.Morton.{cell_of, morton_of, spread_bits}
use Rattle.partition.proofs.Spreading.{interleave_of_spread}
use Rattle.partition.proofs.keys.morton.Goals as goal

pub returns : goal.returns
unfolding morton_of
returns c =
    let p = c.args.p in
    let fits_x : FitsSigned w32 p.x = search rules in
    let fits_y : FitsSigned w32 p.y = search rules in
    let fits_z : FitsSigned w32 p.z = search rules in
    let x : c.cell.result ≡ cell_of p.x = simp to_z-of_z at c.cell.ensures.cell in
    let y : c.cell-2.result ≡ cell_of p.y = simp to_z-of_z at c.cell-2.ensures.cell in
    let z : c.cell-3.result ≡ cell_of p.z = simp to_z-of_z at c.cell-3.ensures.cell in
    omega (
      arith,
      interleave_of_spread 21 (cell_of p.x) (cell_of p.y) (cell_of p.z),
      c.spread.ensures.spread,
      c.spread-2.ensures.spread,
      c.spread-3.ensures.spread,
      ap (spread_bits 21) x,
      ap (spread_bits 21) y,
      ap (spread_bits 21) z,
    )
