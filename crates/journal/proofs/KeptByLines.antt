-- What each line keeps of a journal holds of the journal that a text spells.
use Rattle.std.proofs.Common.{◌≡◌, ◌+◌, ℕ, List, [], ◌∷◌, Bool, true, false, Option, None, Some, Result, Ok, Err, refl}
use Rattle.std.proofs.Common.{subst}
use Rattle.std.specs.Prelude.{if◌then◌else◌}
use Rattle.std.specs.Option.{option_map, option_map_or}
use Rattle.journal.specs.Grammar.{at_end, with_all_uppers, is_comment, journal_of, lines_of, fields_of, read_from}
use Rattle.journal.specs.Grammar.{with_line}
use Rattle.journal.specs.declared.journals.Journal.{Journal}

-- what the lines so far say, where they say something
abbrev pub Says : (Journal → Type 0) → Option Journal → Type 0
Says P None = Unit {0}
Says P (Some journal) = P journal

-- a further line keeps P
abbrev pub LinesKeep : (Journal → Type 0) → Type 0
LinesKeep P =
    (so_far : Option Journal) (next : Journal) (fields : List (List ℕ)) → Says P so_far →
    with_line so_far fields ≡ Some next → P next

end_keeps : (P Q : Journal → Type 0) → ((journal : Journal) → P journal → Q (with_all_uppers journal)) →
    (so_far : Option Journal) (line : ℕ) (journal : Journal) → Says P so_far → at_end so_far line ≡ Ok journal →
    Q journal
end_keeps P Q complete None line journal h e = cc
end_keeps P Q complete (Some so_far) line journal h e =
    let is : with_all_uppers so_far ≡ journal = cc in subst Q is (complete so_far h)

-- a line that is accepted, and then the lines after it
next_keeps : (P Q : Journal → Type 0) (next : Option Journal) (read : Option Journal → Result Journal ℕ) (line : ℕ)
    (journal : Journal) → ((found : Journal) → next ≡ Some found → P found) →
    ((found : Journal) → P found → read (Some found) ≡ Ok journal → Q journal) →
    option_map_or (λ found. read (Some found)) next (Err line) ≡ Ok journal → Q journal
next_keeps P Q None read line journal h after e = cc
next_keeps P Q (Some found) read line journal h after e = after found (h found refl) e

-- a line, and then the lines after it
line_keeps : (P Q : Journal → Type 0) (comment : Bool) (so_far next : Option Journal)
    (read : Option Journal → Result Journal ℕ) (line : ℕ) (journal : Journal) → Says P so_far →
    ((found : Journal) → next ≡ Some found → P found) →
    ((found : Option Journal) → Says P found → read found ≡ Ok journal → Q journal) →
    (if comment then read so_far else option_map_or (λ found. read (Some found)) next (Err line)) ≡ Ok journal →
    Q journal
line_keeps P Q true so_far next read line journal h keep after e = after so_far h e
line_keeps P Q false so_far next read line journal h keep after e =
    next_keeps P Q next read line journal keep (λ found kept is. after (Some found) kept is) e

read_keeps : (P Q : Journal → Type 0) → LinesKeep P → ((journal : Journal) → P journal → Q (with_all_uppers journal)) →
    (lines : List (List ℕ)) (so_far : Option Journal) (line : ℕ) (journal : Journal) → Says P so_far →
    read_from so_far line lines ≡ Ok journal → Q journal
read_keeps P Q keep complete [] so_far line journal h e = end_keeps P Q complete so_far line journal h e
read_keeps P Q keep complete (text ∷ rest) so_far line journal h e =
    line_keeps P Q (is_comment text) so_far (with_line so_far (fields_of text))
    (λ found. read_from found (line + 1) rest) line journal h
    (λ found is. keep so_far found (fields_of text) h is)
    (λ found kept is. read_keeps P Q keep complete rest found (line + 1) journal kept is) e

-- P of each journal so far gives Q of the journal
pub journal_keeps : (P Q : Journal → Type 0) → LinesKeep P →
    ((journal : Journal) → P journal → Q (with_all_uppers journal)) → (text : List ℕ) (journal : Journal) →
    journal_of text ≡ Ok journal → Q journal
journal_keeps P Q keep complete text journal e = read_keeps P Q keep complete (lines_of text) None 1 journal tt e
