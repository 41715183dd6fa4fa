-- The lines of a text and the words of a line: an LF ends a line, a `#` begins a comment, and spaces and tabs
-- part words (Wavefront OBJ).
use Rattle.std.specs.Prelude.{Bool, not, ◌||◌, ◌==◌, ℕ, List, [], ◌∷◌, length, filter, if◌then◌else◌}
use Rattle.std.specs.List.{slice_split, before_first}

abbrev pub is_line_feed : ℕ → Bool
is_line_feed b = b == 10

abbrev pub is_hash : ℕ → Bool
is_hash b = b == 35

abbrev pub is_return : ℕ → Bool
is_return b = b == 13

-- a space or a tab
abbrev pub is_blank : ℕ → Bool
is_blank b = b == 32 || b == 9

-- The lines of a text, each without its LF. What stands behind the last LF is a line too; where nothing stands
-- there it has no words, and so says nothing.
abbrev pub lines_of : List ℕ → List (List ℕ)
lines_of text = slice_split is_line_feed text

-- the line without the one CR that may end it
unfoldable pub without_return : List ℕ → List ℕ
without_return [] = []
without_return (b ∷ []) = if is_return b then [] else b ∷ []
without_return (b ∷ c ∷ rest) = b ∷ without_return (c ∷ rest)

-- what stands before the first `#`
abbrev pub before_comment : List ℕ → List ℕ
before_comment line = before_first is_hash line

abbrev pub is_word : List ℕ → Bool
is_word part = not (length part == 0)

-- the words of a line, from the left
unfoldable pub words_of : List ℕ → List (List ℕ)
words_of line = filter is_word (slice_split is_blank (before_comment (without_return line)))
