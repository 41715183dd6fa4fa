-- The text of a picture: a line for each row, from the top down.
use Rattle.std.specs.Prelude.{ℕ, ◌*◌, ◌/◌, List, [], ◌∷◌, ◌++◌, length, take, drop, map, flat_map}
use Rattle.std.specs.List.{join_with_byte, range_with_len}
use Rattle.std.specs.Int.{w64, to_be_bytes}
use Rattle.hex.specs.Hex.{encode_lower}

-- a word as sixteen hexadecimal digits in lower case, the most significant first
unfoldable pub word_text : ℕ → List ℕ
word_text word = encode_lower (to_be_bytes w64 word)

-- words separated by one space
unfoldable pub row_text : List ℕ → List ℕ
row_text words = join_with_byte 32 (map word_text words)

-- the words of the picture row j
abbrev pub row_of : List ℕ → ℕ → ℕ → List ℕ
row_of words width j = take width (drop (j * width) words)

-- the picture rows, each with a line feed at its end
unfoldable pub picture_text_of : List ℕ → ℕ → List ℕ
picture_text_of words width =
    flat_map (λ j. row_text (row_of words width j) ++ 10 ∷ []) (range_with_len 0 (length words / width))
