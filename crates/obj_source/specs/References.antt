-- The vertex's number with which the word of a corner begins.
use Rattle.std.specs.Prelude.{Bool, ◌&&◌, ◌==◌, nat_le, ℕ, List, length}
use Rattle.obj_source.specs.Numerals.{is_digits}
use Rattle.obj_source.specs.Mesh.{reference_digits}

abbrev pub is_slash : ℕ → Bool
is_slash b = b == 47

-- 1 to 18 digits
abbrev pub is_number : List ℕ → Bool
is_number digits = is_digits digits && nat_le 1 (length digits) && nat_le (length digits) 18

-- whether the word begins with a vertex's number
abbrev pub is_reference : List ℕ → Bool
is_reference word = is_number (reference_digits word)
