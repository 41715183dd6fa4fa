-- The list of pages before the word `missing`, one field after another.
use Rattle.std.proofs.Common.{◌≡◌, ◌==◌, ℕ, ◌^◌, List, [], ◌∷◌, ◌++◌, Bool, true, false, Option, None, Some, codes}
use Rattle.std.proofs.Common.{length, arith, refl, sym, ap, ◌∙◌}
use Rattle.std.specs.Prelude.{if◌then◌else◌}
use Rattle.std.specs.Option.{option_map}
use Rattle.std.specs.Str.{bytes_eq}
use Rattle.std.proofs.lemmas.List.{append-nil, append_assoc}
use Rattle.std.proofs.lemmas.Slice.Eq.{bytes_eq-Decides}
use Rattle.journal.specs.Grammar.{◌>>=◌, after_word, around_word, is_dash, is_empty, pages_until_missing_of, number_of}
use Rattle.journal.specs.Grammar.{numbers_of, pages_of}
use Rattle.journal.specs.RestOfLine.{until_missing}

-- what stands around a word, once a field before it is known not to be the word
abbrev pub onto : List ℕ → Option (List (List ℕ) × List (List ℕ)) → Option (List (List ℕ) × List (List ℕ))
onto field found = option_map (λ found. (field ∷ found.0, found.1)) found

around_yes : (word field : List ℕ) (rest : List (List ℕ)) → bytes_eq field word ≡ true →
    around_word word (field ∷ rest) ≡ Some ([], rest)
around_yes word field rest e = ap (λ b. if b then Some ([], rest) else onto field (around_word word rest)) e

-- a field that isn't the word stands before it
pub around_no : (word field : List ℕ) (rest : List (List ℕ)) → bytes_eq field word ≡ false →
    around_word word (field ∷ rest) ≡ onto field (around_word word rest)
around_no word field rest e = ap (λ b. if b then Some ([], rest) else onto field (around_word word rest)) e

-- the numbers before the word, by what stands around it
abbrev read : Option (List (List ℕ) × List (List ℕ)) → Option (List ℕ × List (List ℕ))
read around = around >>= (λ found. numbers_of (2 ^ 32) found.0 >>= (λ numbers. Some (numbers, found.1)))

abbrev before : Option ℕ → Option (List ℕ × List (List ℕ)) → Option (List ℕ × List (List ℕ))
before number found = number >>= (λ first. option_map (λ found. (first ∷ found.0, found.1)) found)

read_numbers : (number : Option ℕ) (numbers : Option (List ℕ)) (rest : List (List ℕ)) →
    ((number >>= (λ first. numbers >>= (λ more. Some (first ∷ more)))) >>= (λ all. Some (all, rest))) ≡ before number
    (numbers >>= (λ more. Some (more, rest)))
read_numbers None numbers rest = refl
read_numbers (Some first) None rest = refl
read_numbers (Some first) (Some more) rest = refl

read_none : (number : Option ℕ) → None ≡ before number None
read_none None = refl
read_none (Some first) = refl

read_onto : (field : List ℕ) (around : Option (List (List ℕ) × List (List ℕ))) →
    read (onto field around) ≡ before (number_of (2 ^ 32) field) (read around)
read_onto field None = read_none _
read_onto field (Some found) = read_numbers _ _ _

-- at the word
pub until_missing_word : (field : List ℕ) (rest : List (List ℕ)) → bytes_eq field (codes "missing") ≡ true →
    until_missing (field ∷ rest) ≡ Some ([], rest)
unfolding until_missing
until_missing_word field rest e = ap read (around_yes (codes "missing") field rest e)

-- at another field
pub until_missing_step : (field : List ℕ) (rest : List (List ℕ)) → bytes_eq field (codes "missing") ≡ false →
    until_missing (field ∷ rest) ≡ before (number_of (2 ^ 32) field) (until_missing rest)
unfolding until_missing
until_missing_step field rest e = ap read (around_no (codes "missing") field rest e) ∙ read_onto field _

-- behind the last field
pub until_missing_end : until_missing [] ≡ None
unfolding until_missing
until_missing_end = refl

-- what the fields spell, where the numbers `done` stand before what is left
abbrev pub joined : List ℕ → Option (List ℕ × List (List ℕ)) → Option (List ℕ × List (List ℕ))
joined done found = option_map (λ found. (done ++ found.0, found.1)) found

joined_before : (done : List ℕ) (n : ℕ) (found : Option (List ℕ × List (List ℕ))) →
    joined (done ++ n ∷ []) found ≡ joined done (before (Some n) found)
joined_before done n None = refl
joined_before done n (Some found) = ap (λ ns. Some (ns, found.1)) (append_assoc done (n ∷ []) found.0)

-- the word ends the list
pub read_word : (done : List ℕ) (left rest : List (List ℕ)) (field : List ℕ) (all : Option (List ℕ × List (List ℕ))) →
    joined done (until_missing left) ≡ all → left ≡ field ∷ rest → bytes_eq field (codes "missing") ≡ true →
    Some (done, rest) ≡ all
read_word done left rest field all so_far is word =
    ap (λ ns. Some (ns, rest)) (sym (append-nil done)) ∙
    sym (ap (joined done) (ap until_missing is ∙ until_missing_word field rest word)) ∙ so_far

-- another field that is no number ends the reading
pub read_other : (done : List ℕ) (left rest : List (List ℕ)) (field : List ℕ) (all : Option (List ℕ × List (List ℕ))) →
    joined done (until_missing left) ≡ all → left ≡ field ∷ rest → bytes_eq field (codes "missing") ≡ false →
    None ≡ number_of (2 ^ 32) field → None ≡ all
read_other done left rest field all so_far is word none =
    sym (ap (joined done) (ap until_missing is ∙ until_missing_step field rest word ∙
    ap (λ number. before number (until_missing rest)) (sym none))) ∙ so_far

-- a number is put to those before it
pub read_number : (done : List ℕ) (left rest : List (List ℕ)) (field : List ℕ) (n : ℕ)
    (all : Option (List ℕ × List (List ℕ))) → joined done (until_missing left) ≡ all → left ≡ field ∷ rest →
    bytes_eq field (codes "missing") ≡ false → Some n ≡ number_of (2 ^ 32) field →
    joined (done ++ n ∷ []) (until_missing rest) ≡ all
read_number done left rest field n all so_far is word some =
    joined_before done n (until_missing rest) ∙
    sym (ap (joined done) (ap until_missing is ∙ until_missing_step field rest word ∙
    ap (λ number. before number (until_missing rest)) (sym some))) ∙ so_far

-- no field is left
pub read_end : (done : List ℕ) (left : List (List ℕ)) (all : Option (List ℕ × List (List ℕ))) →
    joined done (until_missing left) ≡ all → left ≡ [] → None ≡ all
read_end done left all so_far is = sym (ap (joined done) (ap until_missing is ∙ until_missing_end)) ∙ so_far

-- the fields where a word is the first
is_first : (word field : List ℕ) (rest more : List (List ℕ)) (b : Bool) → (b ≡ true → field ≡ word) →
    Some rest ≡ (if b then Some more else None) → field ∷ more ≡ word ∷ rest
is_first word field rest more true same e = let first = same refl in cc
is_first word field rest more false same e = cc

pub after_word_is : (word : List ℕ) (fields rest : List (List ℕ)) → Some rest ≡ after_word word fields →
    fields ≡ word ∷ rest
after_word_is word [] rest e = cc
after_word_is word (field ∷ more) rest e = is_first word field rest more _ (bytes_eq-Decides field word).0 e

-- the reading of the pages around the word
abbrev read_pages : Option (List (List ℕ) × List (List ℕ)) → Option (List ℕ × List (List ℕ))
read_pages around = around >>= (λ found. pages_of found.0 >>= (λ pages. Some (pages, found.1)))

abbrev none_before : Option (List (List ℕ)) → Option (List ℕ × List (List ℕ))
none_before found = option_map (λ rest. ([], rest)) found

dash_more : (found : Option (List (List ℕ) × List (List ℕ))) (field : List ℕ) →
    None ≡ read_pages (onto (codes "-") (onto field found))
unfolding number_of
dash_more None field = refl
dash_more (Some found) field = refl

dash_cases : (field : List ℕ) (more : List (List ℕ)) (b : Bool) →
    none_before (if b then Some more else None) ≡ read_pages
    (onto (codes "-") (if b then Some ([], more) else onto field (around_word (codes "missing") more)))
dash_cases field more true = refl
dash_cases field more false = dash_more (around_word (codes "missing") more) field

dash_read : (rest : List (List ℕ)) → none_before (after_word (codes "missing") rest) ≡ read_pages
    (onto (codes "-") (around_word (codes "missing") rest))
dash_read [] = refl
dash_read (field ∷ more) = dash_cases field more _

-- `-` before the word
pub needed_dash : (fields rest : List (List ℕ)) → Some rest ≡ after_word (codes "-") fields →
    none_before (after_word (codes "missing") rest) ≡ pages_until_missing_of fields
unfolding pages_until_missing_of
needed_dash fields rest e =
    dash_read rest ∙ sym (ap (λ fields. read_pages (around_word (codes "missing") fields))
    (after_word_is (codes "-") fields rest e))

-- numbers before the word, at least one
abbrev pub not_empty : Option (List ℕ × List (List ℕ)) → Option (List ℕ × List (List ℕ))
not_empty found = found >>= (λ found. if is_empty found.0 then None else Some found)

not_empty_step : (number : Option ℕ) (numbers : Option (List ℕ)) (rest : List (List ℕ)) →
    not_empty ((number >>= (λ first. numbers >>= (λ more. Some (first ∷ more)))) >>= (λ all. Some (all, rest))) ≡
    ((number >>= (λ first. numbers >>= (λ more. Some (first ∷ more)))) >>= (λ all. Some (all, rest)))
not_empty_step None numbers rest = refl
not_empty_step (Some first) None rest = refl
not_empty_step (Some first) (Some more) rest = refl

is_dash_first : (field : List ℕ) (before : List (List ℕ)) → bytes_eq field (codes "-") ≡ false →
    is_dash (field ∷ before) ≡ false
is_dash_first field [] e = e
is_dash_first field (next ∷ more) e = refl

pages_read : (field : List ℕ) (before rest : List (List ℕ)) → is_dash (field ∷ before) ≡ false →
    not_empty (read (Some (field ∷ before, rest))) ≡ read_pages (Some (field ∷ before, rest))
pages_read field before rest e =
    not_empty_step (number_of (2 ^ 32) field) (numbers_of (2 ^ 32) before) rest
    ∙ sym (ap (λ b. (if b then Some [] else numbers_of (2 ^ 32) (field ∷ before)) >>= (λ pages. Some (pages, rest))) e)

around_read : (field : List ℕ) (around : Option (List (List ℕ) × List (List ℕ))) → bytes_eq field (codes "-") ≡ false →
    not_empty (read (onto field around)) ≡ read_pages (onto field around)
around_read field None e = refl
around_read field (Some found) e = pages_read field found.0 found.1 (is_dash_first field found.0 e)

numbers_cases : (field : List ℕ) (rest : List (List ℕ)) (b : Bool) → bytes_eq field (codes "-") ≡ false →
    not_empty (read (if b then Some ([], rest) else onto field (around_word (codes "missing") rest))) ≡ read_pages
    (if b then Some ([], rest) else onto field (around_word (codes "missing") rest))
numbers_cases field rest true e = refl
numbers_cases field rest false e = around_read field _ e

no_dash : (field : List ℕ) (rest : List (List ℕ)) (b : Bool) → None ≡ (if b then Some rest else None) → b ≡ false
no_dash field rest true e = cc
no_dash field rest false e = refl

pub needed_numbers : (fields : List (List ℕ)) → None ≡ after_word (codes "-") fields →
    not_empty (until_missing fields) ≡ pages_until_missing_of fields
unfolding pages_until_missing_of until_missing
needed_numbers [] e = refl
needed_numbers (field ∷ rest) e = numbers_cases field rest _ (no_dash field rest _ e)

-- no number, or none before the word, or some
pub needed_none : (fields : List (List ℕ)) → None ≡ after_word (codes "-") fields → None ≡ until_missing fields →
    None ≡ pages_until_missing_of fields
needed_none fields no_first none = ap not_empty none ∙ needed_numbers fields no_first

pub from_length : (numbers : List ℕ) (b : Bool) → b ≡ (length numbers == 0) → is_empty numbers ≡ b
from_length [] b e = sym e
from_length (first ∷ rest) b e = grind (arith, e)

pub needed_empty : (fields rest : List (List ℕ)) (numbers : List ℕ) → None ≡ after_word (codes "-") fields →
    Some (numbers, rest) ≡ until_missing fields → is_empty numbers ≡ true → None ≡ pages_until_missing_of fields
needed_empty fields rest numbers no_first some empty =
    sym (ap (λ b. if b then None else Some (numbers, rest)) empty) ∙ ap not_empty some ∙ needed_numbers fields no_first

pub needed_some : (fields rest : List (List ℕ)) (numbers : List ℕ) → None ≡ after_word (codes "-") fields →
    Some (numbers, rest) ≡ until_missing fields → is_empty numbers ≡ false →
    Some (numbers, rest) ≡ pages_until_missing_of fields
needed_some fields rest numbers no_first some empty =
    sym (ap (λ b. if b then None else Some (numbers, rest)) empty) ∙ ap not_empty some ∙ needed_numbers fields no_first

-- what was found, seen by a function of it
pub seen_none : {A B : Type 0} (see : A → B) (found : Option A) (answer : Option B) → option_map see found ≡ answer →
    found ≡ None → None ≡ answer
seen_none see found answer e is = sym (ap (option_map see) is) ∙ e

pub seen_some : {A B : Type 0} (see : A → B) (found : Option A) (answer : Option B) (x : A) →
    option_map see found ≡ answer → found ≡ Some x → Some (see x) ≡ answer
seen_some see found answer x e is = sym (ap (option_map see) is) ∙ e
