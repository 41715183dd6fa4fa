-- A triangle's record and its triangle determine each other.
use Rattle.std.proofs.Common.{◌≡◌, ℕ, zero, suc, ◌<◌, List, length, map, get_or, take, drop, refl, sym, ap, ◌∙◌, arith}
use Rattle.std.specs.List.{range_with_len}
use Rattle.std.specs.Int.{w32}
use Rattle.std.proofs.lemmas.Int.{of_z-to_z}
use Rattle.std.proofs.lemmas.List.{ext_get_or}
use Rattle.std.proofs.lemmas.List.FromFn.{length-map-range_with_len, get_or-map-range_with_len}
use Rattle.byteorder.specs.Endian.{little_number}
use Rattle.byteorder.specs.Numbers.{little_from-lt}
use Rattle.page_codec.specs.Numbers.{records, numbers_of, numbers_bytes, IsBytes}
use Rattle.page_codec.specs.Records.{triangle_numbers, triangle_from, triangle_bytes, triangle_of}
use Rattle.page_codec.proofs.RecordLaws.{IsBytes-take, IsBytes-drop}
use Rattle.page_codec.proofs.NumberLaws.{numbers_bytes-read}

-- each is a number of 32 bits
abbrev pub Are32 : List ℕ → Type 0
Are32 numbers = (i : ℕ) → get_or numbers i 0 < 4294967296

-- a list is its items
pub listed : (n : ℕ) (xs : List ℕ) → length xs ≡ n → map (λ i. get_or xs i 0) (range_with_len 0 n) ≡ xs
listed n xs len =
    ext_get_or 0 (map (λ i. get_or xs i 0) (range_with_len 0 n)) xs
    (length-map-range_with_len (λ i. get_or xs i 0) 0 n ∙ sym len)
    (λ i below. let size = length-map-range_with_len (λ i. get_or xs i 0) 0 n in get_or-map-range_with_len
    (λ i. get_or xs i 0) 0 n i i 0 (omega arith) (omega arith))

-- numbers that are read fit
pub Are32-read : (n : ℕ) (bytes : List ℕ) → IsBytes bytes → (i : ℕ) →
    get_or (records (little_number 4) 4 n bytes) i 0 < 4294967296
Are32-read zero bytes are i = omega arith
Are32-read (suc n) bytes are zero = little_from-lt 0 4 (take 4 bytes) (IsBytes-take 4 bytes are)
Are32-read (suc n) bytes are (suc i) = Are32-read n (drop 4 bytes) (IsBytes-drop 4 bytes are) i

pub length-records : {X : Type 0} (read : List ℕ → X) (size n : ℕ) (bytes : List ℕ) →
    length (records read size n bytes) ≡ n
length-records read size zero bytes = refl
length-records read size (suc n) bytes = ap suc (length-records read size n (drop size bytes))

-- ten numbers are those of the triangle that they read as
pub triangle_numbers-read : (ns : List ℕ) → length ns ≡ 10 → Are32 ns → triangle_numbers (triangle_from ns) ≡ ns
unfolding triangle_numbers triangle_from
triangle_numbers-read ns len small =
    rw (
      of_z-to_z w32 (get_or ns 0 0) (small 0),
      of_z-to_z w32 (get_or ns 1 0) (small 1),
      of_z-to_z w32 (get_or ns 2 0) (small 2),
      of_z-to_z w32 (get_or ns 3 0) (small 3),
      of_z-to_z w32 (get_or ns 4 0) (small 4),
      of_z-to_z w32 (get_or ns 5 0) (small 5),
      of_z-to_z w32 (get_or ns 6 0) (small 6),
      of_z-to_z w32 (get_or ns 7 0) (small 7),
      of_z-to_z w32 (get_or ns 8 0) (small 8),
    )
    (listed 10 ns len)

pub length-numbers : (n : ℕ) (b : List ℕ) → length (numbers_of n b) ≡ n
unfolding numbers_of
length-numbers n b = length-records (little_number 4) 4 n b

pub numbers-small : (n : ℕ) (b : List ℕ) → IsBytes b → Are32 (numbers_of n b)
unfolding numbers_of
numbers-small n b are = Are32-read n b are

-- forty bytes are those of the triangle that they read as
pub triangle_bytes-read : (b : List ℕ) → length b ≡ 40 → IsBytes b → triangle_bytes (triangle_of b) ≡ b
triangle_bytes-read b len are =
    ap numbers_bytes (triangle_numbers-read (numbers_of 10 b) (length-numbers 10 b) (numbers-small 10 b are))
    ∙ numbers_bytes-read 10 b (omega arith) are
