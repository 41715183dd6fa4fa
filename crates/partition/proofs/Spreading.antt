-- The bits of one number spread to every third place, and how they add up.
use Rattle.std.proofs.Common.{◌≡◌, ℕ, zero, suc, ◌+◌, ◌*◌, ◌/◌, ◌%◌, ◌^◌, ◌<◌, arith, refl, sym, ap, ◌∙◌, map}
use Rattle.std.proofs.Common.{slice_index}
use Rattle.std.specs.List.{range_with_len}
use Rattle.std.proofs.lemmas.Nat.{shr-shr, mod-pow-add}
use Rattle.std.proofs.lemmas.List.FromFn.{get_or-map-range_with_len}
use Rattle.std.proofs.Math.Nat.{mul_assoc}
use Rattle.partition.specs.declared.keys.TheConstants.{SPREAD}
use Rattle.partition.specs.Morton.{interleave, spread_bits}

-- three numbers are interleaved by spreading each
pub interleave_of_spread : (bits x y z : ℕ) →
    interleave bits x y z ≡ spread_bits bits x + 2 * spread_bits bits y + 4 * spread_bits bits z
unfolding interleave spread_bits
interleave_of_spread zero x y z = refl
interleave_of_spread (suc bits) x y z = omega (arith, interleave_of_spread bits (x / 2) (y / 2) (z / 2))

-- seven of them stay below the power of eight
pub spread_bits-below : (bits n : ℕ) → 7 * spread_bits bits n < 8 ^ bits
unfolding spread_bits
spread_bits-below zero n = omega arith
spread_bits-below (suc bits) n = omega (arith, spread_bits-below bits (n / 2))

-- the low k bits and the others spread apart
pub spread_bits_of_two : (k bits n : ℕ) →
    spread_bits (k + bits) n ≡ spread_bits k n + 8 ^ k * spread_bits bits (n / 2 ^ k)
unfolding spread_bits
spread_bits_of_two zero bits n =
    let e : 0 + bits ≡ bits = omega arith in
    let f : n / 2 ^ 0 ≡ n = omega arith in
    rw (e, f) (omega arith)
spread_bits_of_two (suc k) bits n =
    let e : suc k + bits ≡ suc (k + bits) = omega arith in
    let f : n / 2 ^ suc k ≡ n / 2 / 2 ^ k = sym (shr-shr n 1 k ∙ ap (λ m. n / 2 ^ m) (omega arith)) in
    let times_8 : 8 ^ suc k ≡ 8 * 8 ^ k = omega arith in
    let g : 8 ^ suc k * spread_bits bits (n / 2 / 2 ^ k) ≡ 8 * (8 ^ k * spread_bits bits (n / 2 / 2 ^ k)) =
    ap (λ m. m * spread_bits bits (n / 2 / 2 ^ k)) times_8 ∙ mul_assoc 8 (8 ^ k) (spread_bits bits (n / 2 / 2 ^ k)) in
    ap (λ m. spread_bits m n) e ∙ omega (
      arith,
      spread_bits_of_two k bits (n / 2),
      ap (λ m. 8 ^ suc k * spread_bits bits m) f,
      g,
    )

-- bits above the lowest k don't count
pub spread_bits_of_low : (k n : ℕ) → spread_bits k (n % 2 ^ k) ≡ spread_bits k n
unfolding spread_bits
spread_bits_of_low zero n = refl
spread_bits_of_low (suc k) n =
    let split : n % 2 ^ suc k ≡ n / 2 % 2 ^ k * 2 + n % 2 = ap (λ m. n % 2 ^ m) (omega arith) ∙ mod-pow-add n k 1 in
    let high : n % 2 ^ suc k / 2 ≡ n / 2 % 2 ^ k = omega arith in
    let low : n % 2 ^ suc k % 2 ≡ n % 2 = omega arith in
    rw (high, low) (omega (arith, spread_bits_of_low k (n / 2)))

-- three sevens make 21
pub spread_bits_of_sevens : (n : ℕ) → n < 2 ^ 21 →
    spread_bits 21 n ≡ spread_bits 7 (n % 128) + 2097152 * spread_bits 7 (n / 128 % 128) + 4398046511104 * spread_bits 7
    (n / 128 / 128)
spread_bits_of_sevens n h =
    omega (
      arith,
      spread_bits_of_two 7 14 n,
      spread_bits_of_two 7 7 (n / 128),
      spread_bits_of_low 7 n,
      spread_bits_of_low 7 (n / 128),
    )

-- the table has the spread bits of each number below 128
pub table_of_spread_bits : SPREAD ≡ map (spread_bits 7) (range_with_len 0 128)
unfolding spread_bits
table_of_spread_bits = refl

pub table_at : (n : ℕ) → n < 128 → slice_index SPREAD n ≡ spread_bits 7 n
table_at n h =
    ap (λ xs. slice_index xs n) table_of_spread_bits ∙
    get_or-map-range_with_len (spread_bits 7) 0 128 n n 0 h (omega arith)

-- so are the entries
pub table-below : (n : ℕ) → n < 128 → 7 * slice_index SPREAD n < 2097152
table-below n h = omega (arith, table_at n h, spread_bits-below 7 n)
