-- A line's printed fields are the fields of its text, and the text's lines are its printed lines.
use Rattle.std.proofs.Common.{◌≡◌, ◌==◌, ℕ, ◌≤◌, List, [], ◌∷◌, ◌++◌, false, map, arith, append_assoc, refl, ap, ◌∙◌}
use Rattle.std.specs.List.{All, concat, join_with_byte}
use Rattle.std.proofs.lemmas.List.Elements.{All-append, All-cons, All-head, All-tail, All-weaker}
use Rattle.std.proofs.lemmas.List.Splits.{slice_split_at, slice_split_none}
use Rattle.journal.proofs.Cuts.{lines_of_line, no_lf}
use Rattle.journal.specs.Grammar.{is_comment, lines_of, fields_of}
use Rattle.journal.specs.Spelling.{line_text}

-- a byte that is neither a space nor an LF nor a `#`: each of a printed field's bytes is
abbrev pub IsPlain : ℕ → Type 0
IsPlain byte = 36 ≤ byte

no_space : (byte : ℕ) → IsPlain byte → (byte == 32) ≡ false
no_space byte plain = grind arith

plain_no_lf : (byte : ℕ) → IsPlain byte → no_lf byte
plain_no_lf byte plain = grind arith

-- the fields, where each is plain
pub fields_of_join : (field : List ℕ) (rest : List (List ℕ)) → All (All IsPlain) (field ∷ rest) →
    fields_of (join_with_byte 32 (field ∷ rest)) ≡ field ∷ rest
fields_of_join field [] plain =
    slice_split_none (λ byte. byte == 32) field
    (All-weaker IsPlain (λ byte. (byte == 32) ≡ false) no_space field (All-head (All IsPlain) field [] plain))
fields_of_join field (next ∷ rest) plain =
    slice_split_at (λ byte. byte == 32) field 32 (join_with_byte 32 (next ∷ rest))
    (All-weaker IsPlain (λ byte. (byte == 32) ≡ false) no_space field
    (All-head (All IsPlain) field (next ∷ rest) plain)) refl
    ∙ ap (λ fields. field ∷ fields) (fields_of_join next rest (All-tail (All IsPlain) field (next ∷ rest) plain))

-- no LF stands in them
pub no_lf_join : (field : List ℕ) (rest : List (List ℕ)) → All (All IsPlain) (field ∷ rest) →
    All no_lf (join_with_byte 32 (field ∷ rest))
no_lf_join field [] plain = All-weaker IsPlain no_lf plain_no_lf field (All-head (All IsPlain) field [] plain)
no_lf_join field (next ∷ rest) plain =
    All-append no_lf field (32 ∷ join_with_byte 32 (next ∷ rest))
    (All-weaker IsPlain no_lf plain_no_lf field (All-head (All IsPlain) field (next ∷ rest) plain))
    (All-cons no_lf 32 (join_with_byte 32 (next ∷ rest)) refl
    (no_lf_join next rest (All-tail (All IsPlain) field (next ∷ rest) plain)))

no_mark : (byte : ℕ) → IsPlain byte → (byte == 35) ≡ false
no_mark byte plain = grind arith

-- and they begin with no `#`
pub no_comment_join : (field : List ℕ) (rest : List (List ℕ)) → All (All IsPlain) (field ∷ rest) →
    is_comment (join_with_byte 32 (field ∷ rest)) ≡ false
no_comment_join [] [] plain = refl
no_comment_join [] (next ∷ rest) plain = refl
no_comment_join (byte ∷ field) [] plain =
    no_mark byte (All-head IsPlain byte field (All-head (All IsPlain) (byte ∷ field) [] plain))
no_comment_join (byte ∷ field) (next ∷ rest) plain =
    no_mark byte (All-head IsPlain byte field (All-head (All IsPlain) (byte ∷ field) (next ∷ rest) plain))

-- a printed line: it has a field, and each is plain
abbrev pub IsPlainLine : List (List ℕ) → Type 0
IsPlainLine [] = ⊥
IsPlainLine (field ∷ rest) = All (All IsPlain) (field ∷ rest)

first_line_of : (line : List (List ℕ)) (rest : List ℕ) → IsPlainLine line →
    lines_of (line_text line ++ rest) ≡ join_with_byte 32 line ∷ lines_of rest
first_line_of [] rest plain = absurd plain
first_line_of (field ∷ fields) rest plain =
    ap lines_of (append_assoc (join_with_byte 32 (field ∷ fields)) (10 ∷ []) rest) ∙
    lines_of_line (join_with_byte 32 (field ∷ fields)) rest (no_lf_join field fields plain)

-- the lines of the printed text
pub lines_of_printed : (lines : List (List (List ℕ))) → All IsPlainLine lines →
    lines_of (concat (map line_text lines)) ≡ map (join_with_byte 32) lines
lines_of_printed [] plain = refl
lines_of_printed (line ∷ rest) plain =
    first_line_of line (concat (map line_text rest)) (All-head IsPlainLine line rest plain)
    ∙ ap (λ lines. join_with_byte 32 line ∷ lines) (lines_of_printed rest (All-tail IsPlainLine line rest plain))
