-- What stands before and after the first space of a line, and the first LF of a text.
use Rattle.std.proofs.Common.{◌≡◌, ◌==◌, ℕ, List, [], ◌∷◌, ◌++◌, Bool, not, true, false, Option, None, Some, Bor}
use Rattle.std.proofs.Common.{MatchOption, ◌+◌, length, arith, refl, subst, ap, ◌∙◌}
use Rattle.std.specs.List.{All, onto_first}
use Rattle.std.specs.Prelude.{if◌then◌else◌}
use Rattle.std.proofs.lemmas.List.Elements.{All-head, All-tail}
use Rattle.std.specs.Option.{is_some}
use Rattle.std.proofs.lemmas.List.Splits.{length-slice_split, slice_split_at, slice_split_none}
use Rattle.journal.specs.Grammar.{is_empty, lines_of, fields_of}
use Rattle.journal.specs.RestOfLine.{fields_left}

-- the first field of a line ends at its first space
pub fields_of_cut : (line field : List ℕ) (rest : Option (Bor (List ℕ))) → All (λ byte. (byte == 32) ≡ false) field →
    MatchOption rest (line ≡ field) (λ after. line ≡ field ++ 32 ∷ after.now) →
    fields_of line ≡ field ∷ fields_left rest
fields_of_cut line field None apart whole = ap fields_of whole ∙ slice_split_none (λ byte. byte == 32) field apart
fields_of_cut line field (Some after) apart whole =
    ap fields_of whole ∙ slice_split_at (λ byte. byte == 32) field 32 after.now apart refl

nonempty : (fields : List (List ℕ)) (m : ℕ) → length fields ≡ m + 1 → false ≡ is_empty fields
nonempty [] m e = absurd (omega (arith, e))
nonempty (field ∷ rest) m e = refl

-- a line has a field at least; behind its end there is none
pub is_empty-fields_left : (rest : Option (Bor (List ℕ))) (done : Bool) → is_some rest ≡ not done →
    done ≡ is_empty (fields_left rest)
is_empty-fields_left None true e = refl
is_empty-fields_left None false e = cc
is_empty-fields_left (Some line) true e = cc
is_empty-fields_left (Some line) false e = nonempty _ _ (length-slice_split (λ byte. byte == 32) line.now)

-- a byte that is no LF
abbrev pub no_lf : ℕ → Type 0
no_lf byte = (byte == 10) ≡ false

lines_cons : (byte : ℕ) (rest : List ℕ) → (byte == 10) ≡ false →
    lines_of (byte ∷ rest) ≡ onto_first byte (lines_of rest)
lines_cons byte rest e = ap (λ b. if b then [] ∷ lines_of rest else onto_first byte (lines_of rest)) e

lines_last : (byte : ℕ) (line : List ℕ) → All no_lf (byte ∷ line) → lines_of (byte ∷ line) ≡ (byte ∷ line) ∷ []
lines_last byte [] apart = lines_cons byte [] (All-head no_lf byte [] apart)
lines_last byte (next ∷ line) apart =
    lines_cons byte (next ∷ line) (All-head no_lf byte (next ∷ line) apart) ∙
    ap (onto_first byte) (lines_last next line (All-tail no_lf byte (next ∷ line) apart))

-- a line ends at its LF
pub lines_of_line : (line rest : List ℕ) → All no_lf line → lines_of (line ++ 10 ∷ rest) ≡ line ∷ lines_of rest
lines_of_line [] rest apart = refl
lines_of_line (byte ∷ line) rest apart =
    lines_cons byte (line ++ 10 ∷ rest) (All-head no_lf byte line apart) ∙
    ap (onto_first byte) (lines_of_line line rest (All-tail no_lf byte line apart))

-- the lines of a text that has no LF
pub lines_of_last : (text : List ℕ) → false ≡ (length text == 0) → All no_lf text → lines_of text ≡ text ∷ []
lines_of_last [] some apart = cc
lines_of_last (byte ∷ line) some apart = lines_last byte line apart

-- what the cut of a text at its first LF says of it
abbrev cut_says : List ℕ → List ℕ → Option (Bor (List ℕ)) → Type 0
cut_says text line rest = MatchOption rest (text ≡ line) (λ after. text ≡ line ++ 10 ∷ after.now)

pub lines_cut_some : (text line : List ℕ) (rest : Option (Bor (List ℕ))) (after : Bor (List ℕ)) → All no_lf line →
    cut_says text line rest → rest ≡ Some after → lines_of text ≡ line ∷ lines_of after.now
lines_cut_some text line rest after apart whole is =
    let so_far : cut_says text line (Some after) =
    subst (cut_says text line) is whole in ap lines_of so_far ∙ lines_of_line line after.now apart

pub lines_cut_none : (text line : List ℕ) (rest : Option (Bor (List ℕ))) → All no_lf line → cut_says text line rest →
    rest ≡ None → false ≡ (length text == 0) → lines_of text ≡ line ∷ []
lines_cut_none text line rest apart whole is some =
    let so_far : cut_says text line None = subst (cut_says text line) is whole in
    ap lines_of so_far ∙ lines_of_last line (some ∙ ap (λ bytes. length bytes == 0) so_far) apart
