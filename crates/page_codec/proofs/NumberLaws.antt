-- Numbers below 2^32 and their four bytes: each determines the other.
use Rattle.std.proofs.Common.{◌≡◌, ℕ, zero, suc, ◌+◌, ◌*◌, ◌<◌, List, [], ◌∷◌, length, drop, refl, sym, ap, ◌∙◌, arith}
use Rattle.std.specs.List.{All, flat_map}
use Rattle.std.specs.Int.{w32, from_le_bytes}
use Rattle.std.proofs.lemmas.List.{append-nil, take_all, length-append}
use Rattle.std.proofs.lemmas.Nat.{le_bytes_4}
use Rattle.byteorder.specs.Endian.{little_number}
use Rattle.byteorder.specs.Numbers.{little_number-reads_back}
use Rattle.page_codec.specs.Numbers.{number_bytes, numbers_bytes, records, numbers_of, IsBytes}
use Rattle.page_codec.specs.Breaks.{breaks_in}
use Rattle.page_codec.proofs.RecordLaws.{records-spelt, spelt-records}

-- a number of 32 bits
abbrev pub Is32 : ℕ → Type 0
Is32 n = n < 4294967296

pub length-numbers_bytes : (numbers : List ℕ) → length (numbers_bytes numbers) ≡ 4 * length numbers
unfolding numbers_bytes
length-numbers_bytes [] = refl
length-numbers_bytes (n ∷ numbers) =
    omega (arith, length-append (number_bytes n) (flat_map number_bytes numbers), length-numbers_bytes numbers)

-- numbers read back
pub numbers_of-spelt : (numbers : List ℕ) → All Is32 numbers →
    numbers_of (length numbers) (numbers_bytes numbers) ≡ numbers
unfolding numbers_bytes numbers_of
numbers_of-spelt numbers all =
    ap (records (little_number 4) 4 (length numbers)) (sym (append-nil (flat_map number_bytes numbers)))
    ∙ records-spelt (little_number 4) number_bytes 4 Is32 (λ n small. refl)
    (λ n small. ap (little_number 4) (sym (append-nil (number_bytes n))) ∙ little_number-reads_back 4 n [] small)
    numbers [] all

number-same : (b : List ℕ) → length b ≡ 4 → little_number 4 b ≡ from_le_bytes w32 b
number-same [] len = cc
number-same (p ∷ []) len = cc
number-same (p ∷ q ∷ []) len = cc
number-same (p ∷ q ∷ r ∷ []) len = cc
number-same (p ∷ q ∷ r ∷ s ∷ []) len = omega arith
number-same (p ∷ q ∷ r ∷ s ∷ t ∷ b) len = absurd (omega arith)

-- four bytes are those of the number that they read as
pub number_bytes-read : (b : List ℕ) → length b ≡ 4 → IsBytes b → number_bytes (little_number 4 b) ≡ b
number_bytes-read b len are = le_bytes_4 b (little_number 4 b) len are (number-same b len)

no-breaks : (n offset : ℕ) (bytes : List ℕ) → breaks_in (λ b. []) 4 offset n bytes ≡ []
no-breaks zero offset bytes = refl
no-breaks (suc n) offset bytes = no-breaks n (offset + 4) (drop 4 bytes)

-- bytes are those of the numbers that they read as
pub numbers_bytes-read : (n : ℕ) (bytes : List ℕ) → length bytes ≡ 4 * n → IsBytes bytes →
    numbers_bytes (numbers_of n bytes) ≡ bytes
unfolding numbers_bytes numbers_of
numbers_bytes-read n bytes len are =
    spelt-records (little_number 4) number_bytes 4 (λ b. []) (λ b len are none. number_bytes-read b len are) n 0 bytes
    (omega arith) are (no-breaks n 0 bytes)
    ∙ take_all (4 * n) bytes (omega arith)
