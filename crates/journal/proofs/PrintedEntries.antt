-- A printed entry reads back.
use Rattle.std.proofs.Common.{◌≡◌, ℕ, ◌<◌, ◌≤◌, ◌^◌, List, [], ◌∷◌, ◌++◌, Bool, false, Option, None, Some, codes, map}
use Rattle.std.proofs.Common.{arith, refl, ap, ◌∙◌}
use Rattle.std.specs.Prelude.{if◌then◌else◌, IfSome}
use Rattle.std.specs.Fmt.{decimal}
use Rattle.std.specs.List.{All}
use Rattle.std.specs.Option.{option_map}
use Rattle.std.specs.Str.{bytes_eq}
use Rattle.std.proofs.lemmas.List.Elements.{All-head, All-tail}
use Rattle.hex.specs.Hex.{encode_lower}
use Rattle.journal.proofs.Missing.{around_no, onto}
use Rattle.journal.proofs.PrintedDigests.{digest_encode}
use Rattle.journal.proofs.PrintedNumbers.{decimal_not, dash_spells_none, missing_spells_none, number_decimal}
use Rattle.journal.proofs.PrintedNumbers.{upper_spells_none}
use Rattle.journal.specs.Grammar.{◌>>=◌, after_word, around_word, entry_of, fail_of, split_first, install_of, is_dash}
use Rattle.journal.specs.Grammar.{frame_and_pages_of, single_number_of, pages_until_missing_of, number_of, numbers_of}
use Rattle.journal.specs.Grammar.{number_or_dash_of, pages_of, event_without_list_of, settle_of, spoil_of}
use Rattle.journal.specs.Grammar.{spoilt_digest_of, spoilt_grammar_of, spoilt_of, spoilt_short_of, take_of, event_of}
use Rattle.journal.specs.Spelling.{entry_fields, list_fields, number_or_dash, spoilt_fields, event_fields}
use Rattle.journal.specs.Typed.{Is32, IsDigest, IsTyped, IsTypedSpoilt, IsTypedWhat}
use Rattle.geom_core.specs.declared.digests.Digest32.{Digest32}
use Rattle.journal.specs.declared.entries.Entry.{Entry}
use Rattle.journal.specs.declared.entries.Spoilt.{Spoilt}
use Rattle.journal.specs.declared.entries.Spoilt.TheVariants.{Digest, Grammar, Short}
use Rattle.journal.specs.declared.entries.What.{What}
use Rattle.journal.specs.declared.entries.What.TheVariants.{Pin, Settle, Ask, Narrow, Unpin, Take, Install, Fail, Spoil}
use Rattle.journal.specs.declared.entries.What.TheVariants.{Starve, Full, Stop}

pub number_32 : (n : ℕ) → Is32 n → number_of (2 ^ 32) (decimal n) ≡ Some n
number_32 n lt = number_decimal (2 ^ 32) n lt (omega (arith, lt))

-- printed numbers below a limit
pub numbers_decimal : (limit : ℕ) (numbers : List ℕ) → limit ≤ 2 ^ 64 → All (λ n. n < limit) numbers →
    numbers_of limit (map decimal numbers) ≡ Some numbers
numbers_decimal limit [] fits h = refl
numbers_decimal limit (n ∷ rest) fits h =
    let lt = All-head (λ n. n < limit) n rest h in
    let first = number_decimal limit n lt (omega (arith, lt, fits)) in
    let more = numbers_decimal limit rest fits (All-tail (λ n. n < limit) n rest h) in
    simp (first, more) refl

no_dash : (first : List ℕ) (rest : List (List ℕ)) → bytes_eq first (codes "-") ≡ false → is_dash (first ∷ rest) ≡ false
no_dash first [] e = e
no_dash first (next ∷ rest) e = refl

pub pages_list : (pages : List ℕ) → All Is32 pages → pages_of (list_fields pages) ≡ Some pages
pages_list [] h = refl
pages_list (page ∷ pages) h =
    let lt = All-head Is32 page pages h in
    let dash =
    no_dash (decimal page) (map decimal pages)
    (decimal_not page (codes "-") (omega (arith, lt)) dash_spells_none) in
    ap (λ dash. if dash then Some [] else numbers_of (2 ^ 32) (map decimal (page ∷ pages))) dash
    ∙ numbers_decimal (2 ^ 32) (page ∷ pages) (omega arith) h

around_numbers : (numbers : List ℕ) (rest : List (List ℕ)) → All Is32 numbers →
    around_word (codes "missing") (map decimal numbers ++ codes "missing" ∷ rest) ≡ Some (map decimal numbers, rest)
around_numbers [] rest h = refl
around_numbers (n ∷ numbers) rest h =
    let lt = All-head Is32 n numbers h in
    around_no (codes "missing") (decimal n) (map decimal numbers ++ codes "missing" ∷ rest)
    (decimal_not n (codes "missing") (omega (arith, lt)) missing_spells_none)
    ∙ ap (onto (decimal n)) (around_numbers numbers rest (All-tail Is32 n numbers h))

around_list : (pages : List ℕ) (rest : List (List ℕ)) → All Is32 pages →
    around_word (codes "missing") (list_fields pages ++ codes "missing" ∷ rest) ≡ Some (list_fields pages, rest)
around_list [] rest h = refl
around_list (page ∷ pages) rest h = around_numbers (page ∷ pages) rest h

pages_until_missing_list : (pages : List ℕ) (rest : List (List ℕ)) → All Is32 pages →
    pages_until_missing_of (list_fields pages ++ codes "missing" ∷ rest) ≡ Some (pages, rest)
unfolding pages_until_missing_of
pages_until_missing_list pages rest h =
    let around = around_list pages rest h in let list = pages_list pages h in simp (around, list) refl

number_or_dash_cond : (dash : Bool) (n : ℕ) (read : Option ℕ) → dash ≡ false → read ≡ Some n →
    (if dash then Some None else option_map Some read) ≡ Some (Some n)
number_or_dash_cond dash n read e f = simp (e, f) refl

number_or_dash_decimal : (number : Option ℕ) → IfSome number Is32 →
    number_or_dash_of (number_or_dash number) ≡ Some number
number_or_dash_decimal None h = refl
number_or_dash_decimal (Some n) h =
    number_or_dash_cond _ n _ (decimal_not n (codes "-") (omega (arith, h)) dash_spells_none) (number_32 n h)

single_number_decimal : (n : ℕ) → Is32 n → single_number_of (decimal n ∷ []) ≡ Some n
unfolding single_number_of
single_number_decimal n h = number_32 n h

frame_and_pages_list : (frame : ℕ) (pages : List ℕ) → Is32 frame → All Is32 pages →
    frame_and_pages_of (decimal frame ∷ codes "pages" ∷ list_fields pages) ≡ Some (frame, pages)
unfolding frame_and_pages_of
frame_and_pages_list frame pages h each =
    let number = number_32 frame h in let list = pages_list pages each in simp (number, list) refl

settle_list : (frame : ℕ) (pages missing : List ℕ) → Is32 frame → All Is32 pages → All Is32 missing →
    settle_of (decimal frame ∷ codes "pages" ∷ (list_fields pages ++ codes "missing" ∷ list_fields missing)) ≡ Some
    (Settle frame pages missing)
unfolding settle_of
settle_list frame pages missing h each other =
    let number = number_32 frame h in
    let needed = pages_until_missing_list pages (list_fields missing) each in
    let list = pages_list missing other in
    simp (number, needed, list) refl

take_decimal : (frame : Option ℕ) (page : ℕ) (victim : Option ℕ) → IfSome frame Is32 → Is32 page → IfSome victim Is32 →
    take_of (number_or_dash frame ∷ decimal page ∷ number_or_dash victim ∷ []) ≡ Some (Take frame page victim)
unfolding take_of
take_decimal frame page victim f p v =
    let first =
    number_or_dash_decimal frame f in let second = number_32 page p in let third =
    number_or_dash_decimal victim v in simp (first, second, third) refl

install_decimal : (page : ℕ) (digest : Digest32) → Is32 page → IsDigest digest →
    install_of (decimal page ∷ encode_lower digest.bytes ∷ []) ≡ Some (Install page digest)
unfolding install_of
install_decimal page digest p d =
    let first = number_32 page p in let second = digest_encode digest d in simp (first, second) refl

fail_decimal : (page before after : ℕ) → Is32 page → before < 2 ^ 64 → after < 2 ^ 64 →
    fail_of (decimal page ∷ decimal before ∷ decimal after ∷ []) ≡ Some (Fail page before after)
unfolding fail_of
fail_decimal page before after p b a =
    let first = number_32 page p in
    let second = number_decimal (2 ^ 64) before b b in
    let third = number_decimal (2 ^ 64) after a a in
    simp (first, second, third) refl

spoilt_printed : (why : Spoilt) → IsTypedSpoilt why →
    (split_first (spoilt_fields why) >>= (λ found. spoilt_of found.0 found.1)) ≡ Some why
unfolding spoilt_of spoilt_digest_of spoilt_grammar_of spoilt_short_of
spoilt_printed (Digest stated found) h =
    let first = digest_encode stated h.0 in let second = digest_encode found h.1 in simp (first, second) refl
spoilt_printed (Grammar rule offset) h =
    let lt = h.0 in
    let first =
    number_decimal (2 ^ 8) rule lt (omega (arith, lt)) in let second =
    number_32 offset h.1 in simp (first, second) refl
spoilt_printed (Short got) h = let first = number_32 got h in simp first refl

spoil_step : (page : ℕ) (number : Option ℕ) (fields : Option (List ℕ × List (List ℕ))) (why : Spoilt) →
    number ≡ Some page → (fields >>= (λ found. spoilt_of found.0 found.1)) ≡ Some why →
    (number >>= (λ page. fields >>= (λ found. spoilt_of found.0 found.1 >>= (λ why. Some (Spoil page why))))) ≡ Some
    (Spoil page why)
spoil_step page None fields why e f = cc
spoil_step page (Some n) None why e f = cc
spoil_step page (Some n) (Some found) why e f = let is : n ≡ page = cc in simp (f, is) refl

spoil_printed : (page : ℕ) (why : Spoilt) → Is32 page → IsTypedSpoilt why →
    spoil_of (decimal page ∷ spoilt_fields why) ≡ Some (Spoil page why)
unfolding spoil_of
spoil_printed page why p h =
    spoil_step page (number_of (2 ^ 32) (decimal page)) (split_first (spoilt_fields why)) why (number_32 page p)
    (spoilt_printed why h)

-- what a maker did reads back
event_printed : (what : What) → IsTypedWhat what →
    (split_first (event_fields what) >>= (λ found. event_of found.0 found.1)) ≡ Some what
unfolding event_of event_without_list_of
event_printed (Pin frame) h = let first = single_number_decimal frame h in simp first refl
event_printed (Settle frame pages missing) h = settle_list frame pages missing h.0 h.1 h.2
event_printed (Ask frame pages) h = let first = frame_and_pages_list frame pages h.0 h.1 in simp first refl
event_printed (Narrow frame pages) h = let first = frame_and_pages_list frame pages h.0 h.1 in simp first refl
event_printed (Unpin frame) h = let first = single_number_decimal frame h in simp first refl
event_printed (Take frame page victim) h = take_decimal frame page victim h.0 h.1 h.2
event_printed (Install page digest) h = install_decimal page digest h.0 h.1
event_printed (Fail page before after) h = fail_decimal page before after h.0 h.1 h.2
event_printed (Spoil page why) h = spoil_printed page why h.0 h.1
event_printed (Starve page) h = let first = single_number_decimal page h in simp first refl
event_printed (Full frame) h = let first = single_number_decimal frame h in simp first refl
event_printed Stop h = refl

abbrev entry_by : ℕ → What → Entry
entry_by by what = record { by = by; what = what }

entry_step : (by : ℕ) (number : Option ℕ) (fields : Option (List ℕ × List (List ℕ))) (what : What) → number ≡ Some by →
    (fields >>= (λ found. event_of found.0 found.1)) ≡ Some what →
    (number >>= (λ by. fields >>= (λ found. event_of found.0 found.1 >>= (λ what. Some (entry_by by what))))) ≡ Some
    (entry_by by what)
entry_step by None fields what e f = cc
entry_step by (Some n) None what e f = cc
entry_step by (Some n) (Some found) what e f = let is : n ≡ by = cc in simp (f, is) refl

-- a printed entry is the one that its fields spell
pub entry_printed : (entry : Entry) → IsTyped entry → entry_of (entry_fields entry) ≡ Some entry
unfolding entry_of
entry_printed entry h =
    entry_step entry.by (number_of (2 ^ 32) (decimal entry.by)) (split_first (event_fields entry.what)) entry.what
    (number_32 entry.by h.0) (event_printed entry.what h.1)

-- and they aren't those of an `upper` line
pub entry_no_upper : (entry : Entry) → IsTyped entry → after_word (codes "upper") (entry_fields entry) ≡ None
entry_no_upper entry h =
    let by = h.0 in
    ap (λ b. if b then Some (event_fields entry.what) else None)
    (decimal_not entry.by (codes "upper") (omega (arith, by)) upper_spells_none)
