-- Numbers below 2^32 as bytes, four each, the lowest byte first; and records of one size, one after the other.
use Rattle.std.specs.Prelude.{ℕ, ◌<◌, slice_index, zero, suc, List, [], ◌∷◌, take, drop}
use Rattle.std.specs.List.{flat_map}
use Rattle.byteorder.specs.Endian.{little_bytes, little_number}

-- the bytes of a number
abbrev pub number_bytes : ℕ → List ℕ
number_bytes n = little_bytes 4 n

-- the bytes of several numbers
unfoldable pub numbers_bytes : List ℕ → List ℕ
numbers_bytes numbers = flat_map number_bytes numbers

-- n records of this size from the bytes' start on, each as it reads by itself
abbrev pub records : {X : Type 0} → (List ℕ → X) → ℕ → ℕ → List ℕ → List X
records read size zero bytes = []
records read size (suc n) bytes = read (take size bytes) ∷ records read size n (drop size bytes)

-- the n numbers that the bytes begin with
unfoldable pub numbers_of : ℕ → List ℕ → List ℕ
numbers_of n bytes = records (little_number 4) 4 n bytes

-- each item is a byte
abbrev pub IsBytes : List ℕ → Type 0
IsBytes bytes = (i : ℕ) → slice_index bytes i < 256
