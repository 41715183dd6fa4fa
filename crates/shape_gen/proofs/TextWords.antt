-- The lines of a text, and the words of a line, that is made of fields.
use Rattle.std.proofs.Common.{◌≡◌, ◌≢◌, ℕ, ◌+◌, ◌-◌, ◌≤◌, false, List, [], ◌∷◌, ◌++◌, length, get_or, All, refl, ap}
use Rattle.std.proofs.Common.{◌∙◌, append_assoc, arith}
use Rattle.std.specs.List.{join_with_byte}
use Rattle.std.proofs.lemmas.Bool.Decides.{nat_tests}
use Rattle.std.proofs.lemmas.Grind.{common_steps}
use Rattle.std.proofs.lemmas.List.Elements.{All-head, All-tail, All-cons, All-append}
use Rattle.std.proofs.lemmas.List.Splits.{slice_split_at}
use Rattle.obj_source.specs.Lines.{is_line_feed, lines_of, words_of}
use Rattle.obj_source.specs.Mesh.{MeshSoFar, ◌>>=◌, with_line, read_lines}
use Rattle.obj_source.specs.Scanner.{parts_words, kept}
use Rattle.obj_source.proofs.LineWords.{IsInside, kept-some, words_of-blank, words_of-last, without_return-no}
use Rattle.obj_source.proofs.TextLines.{IsOneLine}
use Rattle.shape_gen.specs.BoxText.{line_of}

-- A field is not empty, and each of its bytes is a digit or greater: none separates words, begins a comment or ends a
-- line.
pub record IsField (field : List ℕ) : Type 0 where
  pub some : 1 ≤ length field
  pub bytes : All (λ b. 48 ≤ b) field

separates_no_words : (b : ℕ) → 48 ≤ b → parts_words b ≡ false
separates_no_words b high = grind (arith, common_steps, nat_tests)

ends_no_line : (b : ℕ) → 48 ≤ b → is_line_feed b ≡ false
ends_no_line b high = grind (arith, common_steps, nat_tests)

field-inside : (field : List ℕ) → IsField field → IsInside field
field-inside field f = λ k d h. separates_no_words _ (f.bytes k d h)

field-no_return : (field : List ℕ) → IsField field → get_or field (length field - 1) 0 ≢ 13
field-no_return field f is_return =
    let high : 48 ≤ get_or field (length field - 1) 0 = f.bytes (length field - 1) 0 (omega (arith, f.some)) in
    omega arith

words_of-field : (field : List ℕ) → IsField field → words_of field ≡ field ∷ []
words_of-field field f =
    words_of-last field (field-inside field f) ∙
    ap kept (without_return-no field (length field - 1) (omega (arith, f.some)) (field-no_return field f)) ∙
    kept-some field f.some

-- the words of a line of fields are these
pub words_of-fields : (field : List ℕ) (fields : List (List ℕ)) → All IsField (field ∷ fields) →
    words_of (join_with_byte 32 (field ∷ fields)) ≡ field ∷ fields
words_of-fields field [] all = words_of-field field (All-head IsField field [] all)
words_of-fields field (next ∷ fields) all =
    let first : IsField field = All-head IsField field (next ∷ fields) all in
    words_of-blank field 32 (join_with_byte 32 (next ∷ fields)) (field-inside field first) refl ∙
    ap (λ words. words ++ words_of (join_with_byte 32 (next ∷ fields))) (kept-some field first.some) ∙
    ap (λ words. field ∷ words) (words_of-fields next fields (All-tail IsField field (next ∷ fields) all))

field-one_line : (field : List ℕ) → IsField field → IsOneLine field
field-one_line field f = λ k d h. ends_no_line _ (f.bytes k d h)

fields-one_line : (field : List ℕ) (fields : List (List ℕ)) → All IsField (field ∷ fields) →
    IsOneLine (join_with_byte 32 (field ∷ fields))
fields-one_line field [] all = field-one_line field (All-head IsField field [] all)
fields-one_line field (next ∷ fields) all =
    All-append (λ b. is_line_feed b ≡ false) field (32 ∷ join_with_byte 32 (next ∷ fields))
    (field-one_line field (All-head IsField field (next ∷ fields) all))
    (All-cons (λ b. is_line_feed b ≡ false) 32 (join_with_byte 32 (next ∷ fields)) refl
    (fields-one_line next fields (All-tail IsField field (next ∷ fields) all)))

lines_of-fields : (field : List ℕ) (fields : List (List ℕ)) (rest : List ℕ) → All IsField (field ∷ fields) →
    lines_of (line_of (field ∷ fields) ++ rest) ≡ join_with_byte 32 (field ∷ fields) ∷ lines_of rest
lines_of-fields field fields rest all =
    ap lines_of (append_assoc (join_with_byte 32 (field ∷ fields)) (10 ∷ []) rest) ∙
    slice_split_at is_line_feed (join_with_byte 32 (field ∷ fields)) 10 rest (fields-one_line field fields all) refl

-- a text that begins with a line of fields is read as the line of these words, and then the rest
pub read_lines-fields : (scale : ℕ) (mesh : MeshSoFar) (line : ℕ) (field : List ℕ) (fields : List (List ℕ))
    (rest : List ℕ) → All IsField (field ∷ fields) →
    read_lines scale mesh line (lines_of (line_of (field ∷ fields) ++ rest)) ≡
    with_line scale mesh line (field ∷ fields) >>= (λ more. read_lines scale more (line + 1) (lines_of rest))
read_lines-fields scale mesh line field fields rest all =
    ap (read_lines scale mesh line) (lines_of-fields field fields rest all) ∙
    ap (λ words. with_line scale mesh line words >>= (λ more. read_lines scale more (line + 1) (lines_of rest)))
    (words_of-fields field fields all)
