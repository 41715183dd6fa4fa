-- What one line makes of the reading of a text.
use Rattle.std.proofs.Common.{◌≡◌, ◌+◌, ℕ, List, [], ◌∷◌, Bool, true, false, Option, None, Some, Result, Ok, Err, refl}
use Rattle.std.proofs.Common.{sym, ap, ◌∙◌}
use Rattle.std.specs.Prelude.{if◌then◌else◌}
use Rattle.std.specs.Option.{option_map_or}
use Rattle.journal.specs.Grammar.{at_end, fields_of, is_comment, read_from, with_all_uppers, with_line}
use Rattle.journal.specs.LineResult.{accepted_or_bad, line_result}
use Rattle.journal.specs.declared.journals.Journal.{Journal}
use Rattle.journal.specs.declared.reading.LineResult.{LineResult}
use Rattle.journal.specs.declared.reading.LineResult.TheVariants.{Comment, Accepted, Bad}

abbrev result_of : Bool → Option Journal → LineResult
result_of comment next = if comment then Comment else accepted_or_bad next

abbrev read_as : Bool → Option Journal → Result Journal ℕ → (Journal → Result Journal ℕ) → ℕ → Result Journal ℕ
read_as comment next same read line = if comment then same else option_map_or read next (Err line)

comment_as : (comment : Bool) (next : Option Journal) (same : Result Journal ℕ) (read : Journal → Result Journal ℕ)
    (line : ℕ) → Comment ≡ result_of comment next → read_as comment next same read line ≡ same
comment_as true next same read line e = refl
comment_as false None same read line e = cc
comment_as false (Some journal) same read line e = cc

accepted_as : (comment : Bool) (next : Option Journal) (found : Journal) (same : Result Journal ℕ)
    (read : Journal → Result Journal ℕ) (line : ℕ) → Accepted found ≡ result_of comment next →
    read_as comment next same read line ≡ read found
accepted_as true next found same read line e = cc
accepted_as false None found same read line e = cc
accepted_as false (Some journal) found same read line e = let is : found ≡ journal = cc in ap read (sym is)

bad_as : (comment : Bool) (next : Option Journal) (same : Result Journal ℕ) (read : Journal → Result Journal ℕ)
    (line : ℕ) → Bad ≡ result_of comment next → read_as comment next same read line ≡ Err line
bad_as true next same read line e = cc
bad_as false None same read line e = refl
bad_as false (Some journal) same read line e = cc

-- a comment
pub read_comment : (so_far : Option Journal) (line : ℕ) (text : List ℕ) (rest : List (List ℕ)) →
    Comment ≡ line_result so_far text → read_from so_far line (text ∷ rest) ≡ read_from so_far (line + 1) rest
unfolding line_result
read_comment so_far line text rest e =
    comment_as (is_comment text) (with_line so_far (fields_of text)) (read_from so_far (line + 1) rest)
    (λ journal. read_from (Some journal) (line + 1) rest) line e

-- a line of the grammar
pub read_accepted : (so_far : Option Journal) (found : Journal) (line : ℕ) (text : List ℕ) (rest : List (List ℕ)) →
    Accepted found ≡ line_result so_far text →
    read_from so_far line (text ∷ rest) ≡ read_from (Some found) (line + 1) rest
unfolding line_result
read_accepted so_far found line text rest e =
    accepted_as (is_comment text) (with_line so_far (fields_of text)) found (read_from so_far (line + 1) rest)
    (λ journal. read_from (Some journal) (line + 1) rest) line e

-- a line outside the grammar
pub read_bad : (so_far : Option Journal) (line : ℕ) (text : List ℕ) (rest : List (List ℕ)) →
    Bad ≡ line_result so_far text → read_from so_far line (text ∷ rest) ≡ Err line
unfolding line_result
read_bad so_far line text rest e =
    bad_as (is_comment text) (with_line so_far (fields_of text)) (read_from so_far (line + 1) rest)
    (λ journal. read_from (Some journal) (line + 1) rest) line e

-- a comment, as the loop meets it
pub step_comment : (so_far next : Option Journal) (line : ℕ) (lines : List (List ℕ)) (text : List ℕ)
    (rest : List (List ℕ)) (read : LineResult) (all : Result Journal ℕ) → read_from so_far line lines ≡ all →
    lines ≡ text ∷ rest → read ≡ line_result so_far text → read ≡ Comment → next ≡ so_far →
    read_from next (line + 1) rest ≡ all
step_comment so_far next line lines text rest read all before is found comment same =
    ap (λ journal. read_from journal (line + 1) rest) same
    ∙ sym (read_comment so_far line text rest (sym comment ∙ found))
    ∙ sym (ap (read_from so_far line) is)
    ∙ before

-- a line of the grammar, as the loop meets it
pub step_accepted : (so_far next : Option Journal) (journal : Journal) (line : ℕ) (lines : List (List ℕ))
    (text : List ℕ) (rest : List (List ℕ)) (read : LineResult) (all : Result Journal ℕ) →
    read_from so_far line lines ≡ all → lines ≡ text ∷ rest → read ≡ line_result so_far text → read ≡ Accepted journal →
    next ≡ Some journal → read_from next (line + 1) rest ≡ all
step_accepted so_far next journal line lines text rest read all before is found accepted same =
    ap (λ journal. read_from journal (line + 1) rest) same
    ∙ sym (read_accepted so_far journal line text rest (sym accepted ∙ found))
    ∙ sym (ap (read_from so_far line) is)
    ∙ before

-- a line outside the grammar ends the reading
pub stop_bad : (so_far : Option Journal) (line : ℕ) (lines : List (List ℕ)) (text : List ℕ) (rest : List (List ℕ))
    (read : LineResult) (all : Result Journal ℕ) → read_from so_far line lines ≡ all → lines ≡ text ∷ rest →
    read ≡ line_result so_far text → read ≡ Bad → all ≡ Err line
stop_bad so_far line lines text rest read all before is found bad =
    sym before ∙ ap (read_from so_far line) is ∙ read_bad so_far line text rest (sym bad ∙ found)

-- the journal at the text's end
pub read_end : (so_far : Option Journal) (builder journal : Journal) (line : ℕ) (lines : List (List ℕ))
    (all : Result Journal ℕ) → read_from so_far line lines ≡ all → lines ≡ [] → so_far ≡ Some builder →
    journal ≡ with_all_uppers builder → all ≡ Ok journal
read_end so_far builder journal line lines all before none is built =
    sym before ∙ ap (read_from so_far line) none ∙ ap (λ journal. at_end journal line) is ∙ ap Ok (sym built)
