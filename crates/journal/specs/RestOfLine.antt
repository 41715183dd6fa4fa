-- The rest of a line while it is read.
use Rattle.std.specs.Prelude.{ℕ, ◌^◌, List, [], Option, None, Some, codes}
use denote.Ref.{Bor}
use Rattle.journal.specs.Grammar.{◌>>=◌, around_word, numbers_of, fields_of}

-- the fields of the rest of a line; none after its end
abbrev pub fields_left : Option (Bor (List ℕ)) → List (List ℕ)
fields_left None = []
fields_left (Some rest) = fields_of rest.now

-- the numbers before the word `missing`, and the fields after it
unfoldable pub until_missing : List (List ℕ) → Option (List ℕ × List (List ℕ))
until_missing fields = do
  (needed, rest) ← around_word (codes "missing") fields
  numbers ← numbers_of (2 ^ 32) needed
  Some (numbers, rest)
