-- The entries that a text spells have numbers within their types.
use Rattle.std.proofs.Common.{◌≡◌, ℕ, ◌<◌, ◌^◌, List, [], ◌∷◌, ◌++◌, Bool, true, false, Option, None, Some, Result, Ok}
use Rattle.std.proofs.Common.{Err, codes, length, arith, refl, subst, sym, ◌∙◌}
use Rattle.std.specs.Prelude.{if◌then◌else◌, IfSome}
use Rattle.std.specs.List.{All, list_all}
use Rattle.std.specs.Option.{option_map, option_map_or}
use Rattle.std.specs.Result.{result_ok}
use Rattle.std.specs.Str.{bytes_eq}
use Rattle.std.proofs.lemmas.List.Elements.{All-from_get_or, All-nil, All-push}
use Rattle.hex.proofs.HexLemmas.{decode_of-ok, decode_sized-ok, decode_sized-twice}
use Rattle.hex.specs.Hex.{decode_sized}
use Rattle.hex.specs.declared.error.FromHexError.{FromHexError}
use Rattle.geom_core.specs.declared.digests.Digest32.{Digest32}
use Rattle.journal.proofs.Bounded.{bind_some, number_lt, some_numbers_lt}
use Rattle.journal.proofs.KeptByLines.{LinesKeep, journal_keeps}
use Rattle.journal.specs.Grammar.{after_word, around_word, with_all_uppers, digest_of, entry_of, fail_of, split_first}
use Rattle.journal.specs.Grammar.{install_of, is_dash, is_digest_digit, journal_of, layout_of, frame_and_pages_of}
use Rattle.journal.specs.Grammar.{single_number_of, pages_until_missing_of, number_of, single, number_or_dash_of}
use Rattle.journal.specs.Grammar.{pages_of, pair, event_without_list_of, settle_of, some_numbers_of, spoil_of}
use Rattle.journal.specs.Grammar.{spoilt_digest_of, spoilt_grammar_of, spoilt_of, spoilt_short_of, stop_of, take_of}
use Rattle.journal.specs.Grammar.{triple, event_of, with_entry, with_line, with_upper}
use Rattle.journal.specs.Typed.{Is32, IsDigest, IsTyped, IsTypedSpoilt, IsTypedWhat}
use Rattle.journal.specs.declared.entries.Entry.{Entry}
use Rattle.journal.specs.declared.entries.Spoilt.{Spoilt}
use Rattle.journal.specs.declared.entries.Spoilt.TheVariants.{Digest, Grammar, Short}
use Rattle.journal.specs.declared.entries.What.{What}
use Rattle.journal.specs.declared.entries.What.TheVariants.{Pin, Settle, Ask, Narrow, Unpin, Take, Install, Fail, Spoil}
use Rattle.journal.specs.declared.entries.What.TheVariants.{Starve, Full, Stop}
use Rattle.journal.specs.declared.journals.Journal.{Journal}

-- P of what is read, in either branch, through a function, and as it stands
either : {A : Type 0} (P : A → Type 0) (test : Bool) (first second : Option A) (found : A) →
    ((x : A) → first ≡ Some x → P x) → ((x : A) → second ≡ Some x → P x) →
    (if test then first else second) ≡ Some found → P found
either P true first second found h g e = h found e
either P false first second found h g e = g found e

mapped : {A B : Type 0} (P : B → Type 0) (f : A → B) (read : Option A) (found : B) →
    ((x : A) → read ≡ Some x → P (f x)) → option_map f read ≡ Some found → P found
mapped P f None found h e = cc
mapped P f (Some x) found h e = let is : f x ≡ found = cc in subst P is (h x refl)

read_as : {A : Type 0} (P : A → Type 0) (x found : A) → P x → Some x ≡ Some found → P found
read_as P x found h e = let is : x ≡ found = cc in subst P is h

number_32 : (field : List ℕ) (n : ℕ) → number_of (2 ^ 32) field ≡ Some n → Is32 n
number_32 field n e = number_lt (2 ^ 32) field n e

single_number : (fields : List (List ℕ)) (n : ℕ) → single_number_of fields ≡ Some n → Is32 n
unfolding single_number_of
single_number fields n e = let a = bind_some (single fields) _ n e in number_32 a.0 n a.2

number_or_dash : (field : List ℕ) (number : Option ℕ) → number_or_dash_of field ≡ Some number → IfSome number Is32
number_or_dash field number e =
    either (λ number. IfSome number Is32) (bytes_eq field (codes "-")) (Some None)
    (option_map Some (number_of (2 ^ 32) field)) number
    (λ found is. read_as (λ number. IfSome number Is32) None found tt is)
    (λ found is. mapped (λ number. IfSome number Is32) Some (number_of (2 ^ 32) field) found
    (λ n is. number_32 field n is) is) e

pages : (fields : List (List ℕ)) (list : List ℕ) → pages_of fields ≡ Some list → All Is32 list
pages fields list e =
    either (All Is32) (is_dash fields) (Some []) (some_numbers_of (2 ^ 32) fields) list
    (λ found is. read_as (All Is32) [] found (All-nil Is32) is)
    (λ found is. some_numbers_lt (2 ^ 32) fields found is) e

decoded : (field bytes : List ℕ) → decode_sized field 32 ≡ Ok bytes → (length bytes ≡ 32) ×
    All (λ byte. byte < 256) bytes
decoded field bytes e =
    let long = decode_sized-ok field 32 bytes e in
    let h = decode_of-ok field bytes (sym (decode_sized-twice field 32 long) ∙ e) in
    (omega (arith, long, h.2), All-from_get_or (λ byte. byte < 256) bytes 0 (λ i lt. h.3 i))

digest_ok : (read : Result (List ℕ) FromHexError) (digest : Digest32) →
    ((bytes : List ℕ) → read ≡ Ok bytes → (length bytes ≡ 32) × All (λ byte. byte < 256) bytes) →
    option_map (λ bytes. record { bytes = bytes }) (result_ok read) ≡ Some digest → IsDigest digest
digest_ok (Err fault) digest h e = cc
digest_ok (Ok bytes) digest h e = read_as IsDigest (record { bytes = bytes }) digest (h bytes refl) e

digest : (field : List ℕ) (sum : Digest32) → digest_of field ≡ Some sum → IsDigest sum
unfolding digest_of
digest field sum e =
    either IsDigest (list_all is_digest_digit field)
    (option_map (λ bytes. record { bytes = bytes }) (result_ok (decode_sized field 32))) None sum
    (λ found is. digest_ok (decode_sized field 32) found (λ bytes is. decoded field bytes is) is)
    (λ found is. cc) e

frame_and_pages : (fields : List (List ℕ)) (found : ℕ × List ℕ) → frame_and_pages_of fields ≡ Some found →
    Is32 found.0 × All Is32 found.1
unfolding frame_and_pages_of
frame_and_pages fields found e =
    let a = bind_some (split_first fields) _ found e in
    let frame = bind_some (number_of (2 ^ 32) a.0.0) _ found a.2 in
    let b = bind_some (after_word (codes "pages") a.0.1) _ found frame.2 in
    let list = bind_some (pages_of b.0) _ found b.2 in
    read_as (λ found. Is32 found.0 × All Is32 found.1) (frame.0, list.0) found
    (number_32 a.0.0 frame.0 frame.1, pages b.0 list.0 list.1) list.2

pages_until_missing : (fields : List (List ℕ)) (found : List ℕ × List (List ℕ)) →
    pages_until_missing_of fields ≡ Some found → All Is32 found.0
unfolding pages_until_missing_of
pages_until_missing fields found e =
    let a = bind_some (around_word (codes "missing") fields) _ found e in
    let list = bind_some (pages_of a.0.0) _ found a.2 in
    read_as (λ found. All Is32 found.0) (list.0, a.0.1) found (pages a.0.0 list.0 list.1) list.2

settle : (fields : List (List ℕ)) (what : What) → settle_of fields ≡ Some what → IsTypedWhat what
unfolding settle_of
settle fields what e =
    let a = bind_some (split_first fields) _ what e in
    let frame = bind_some (number_of (2 ^ 32) a.0.0) _ what a.2 in
    let b = bind_some (after_word (codes "pages") a.0.1) _ what frame.2 in
    let first = bind_some (pages_until_missing_of b.0) _ what b.2 in
    let second = bind_some (pages_of first.0.1) _ what first.2 in
    read_as IsTypedWhat (Settle frame.0 first.0.0 second.0) what
    (number_32 a.0.0 frame.0 frame.1, pages_until_missing b.0 first.0 first.1, pages first.0.1 second.0 second.1)
    second.2

take : (fields : List (List ℕ)) (what : What) → take_of fields ≡ Some what → IsTypedWhat what
unfolding take_of
take fields what e =
    let a = bind_some (triple fields) _ what e in
    let frame = bind_some (number_or_dash_of a.0.0) _ what a.2 in
    let page = bind_some (number_of (2 ^ 32) a.0.1) _ what frame.2 in
    let victim = bind_some (number_or_dash_of a.0.2) _ what page.2 in
    read_as IsTypedWhat (Take frame.0 page.0 victim.0) what
    (number_or_dash a.0.0 frame.0 frame.1, number_32 a.0.1 page.0 page.1, number_or_dash a.0.2 victim.0 victim.1)
    victim.2

install : (fields : List (List ℕ)) (what : What) → install_of fields ≡ Some what → IsTypedWhat what
unfolding install_of
install fields what e =
    let a = bind_some (pair fields) _ what e in
    let page = bind_some (number_of (2 ^ 32) a.0.0) _ what a.2 in
    let sum = bind_some (digest_of a.0.1) _ what page.2 in
    read_as IsTypedWhat (Install page.0 sum.0) what (number_32 a.0.0 page.0 page.1, digest a.0.1 sum.0 sum.1) sum.2

fail : (fields : List (List ℕ)) (what : What) → fail_of fields ≡ Some what → IsTypedWhat what
unfolding fail_of
fail fields what e =
    let a = bind_some (triple fields) _ what e in
    let page = bind_some (number_of (2 ^ 32) a.0.0) _ what a.2 in
    let before = bind_some (number_of (2 ^ 64) a.0.1) _ what page.2 in
    let after = bind_some (number_of (2 ^ 64) a.0.2) _ what before.2 in
    read_as IsTypedWhat (Fail page.0 before.0 after.0) what (
      number_32 a.0.0 page.0 page.1,
      number_lt (2 ^ 64) a.0.1 before.0 before.1,
      number_lt (2 ^ 64) a.0.2 after.0 after.1,
    ) after.2

spoilt_digest : (fields : List (List ℕ)) (why : Spoilt) → spoilt_digest_of fields ≡ Some why → IsTypedSpoilt why
unfolding spoilt_digest_of
spoilt_digest fields why e =
    let a = bind_some (pair fields) _ why e in
    let stated = bind_some (digest_of a.0.0) _ why a.2 in
    let found = bind_some (digest_of a.0.1) _ why stated.2 in
    read_as IsTypedSpoilt (Digest stated.0 found.0) why
    (digest a.0.0 stated.0 stated.1, digest a.0.1 found.0 found.1) found.2

spoilt_grammar : (fields : List (List ℕ)) (why : Spoilt) → spoilt_grammar_of fields ≡ Some why → IsTypedSpoilt why
unfolding spoilt_grammar_of
spoilt_grammar fields why e =
    let a = bind_some (pair fields) _ why e in
    let rule = bind_some (number_of (2 ^ 8) a.0.0) _ why a.2 in
    let offset = bind_some (number_of (2 ^ 32) a.0.1) _ why rule.2 in
    read_as IsTypedSpoilt (Grammar rule.0 offset.0) why
    (number_lt (2 ^ 8) a.0.0 rule.0 rule.1, number_32 a.0.1 offset.0 offset.1) offset.2

spoilt_short : (fields : List (List ℕ)) (why : Spoilt) → spoilt_short_of fields ≡ Some why → IsTypedSpoilt why
unfolding spoilt_short_of
spoilt_short fields why e =
    let a = bind_some (single fields) _ why e in
    let got = bind_some (number_of (2 ^ 32) a.0) _ why a.2 in
    read_as IsTypedSpoilt (Short got.0) why (number_32 a.0 got.0 got.1) got.2

spoilt : (word : List ℕ) (fields : List (List ℕ)) (why : Spoilt) → spoilt_of word fields ≡ Some why → IsTypedSpoilt why
unfolding spoilt_of
spoilt word fields why e =
    either IsTypedSpoilt (bytes_eq word (codes "digest")) (spoilt_digest_of fields) _ why
    (λ x is. spoilt_digest fields x is)
    (λ x is. either IsTypedSpoilt (bytes_eq word (codes "grammar")) (spoilt_grammar_of fields) _ x
    (λ y so. spoilt_grammar fields y so)
    (λ y so. either IsTypedSpoilt (bytes_eq word (codes "short")) (spoilt_short_of fields) None y
    (λ z too. spoilt_short fields z too) (λ z too. cc) so) is) e

spoil : (fields : List (List ℕ)) (what : What) → spoil_of fields ≡ Some what → IsTypedWhat what
unfolding spoil_of
spoil fields what e =
    let a = bind_some (split_first fields) _ what e in
    let page = bind_some (number_of (2 ^ 32) a.0.0) _ what a.2 in
    let b = bind_some (split_first a.0.1) _ what page.2 in
    let why = bind_some (spoilt_of b.0.0 b.0.1) _ what b.2 in
    read_as IsTypedWhat (Spoil page.0 why.0) what (number_32 a.0.0 page.0 page.1, spoilt b.0.0 b.0.1 why.0 why.1) why.2

stop : (fields : List (List ℕ)) (what : What) → stop_of fields ≡ Some what → IsTypedWhat what
stop [] what e = read_as IsTypedWhat Stop what tt e
stop (field ∷ rest) what e = cc

-- the entries without a list of pages, by which word it is
by_word : (is_pin is_unpin is_take is_install is_fail is_spoil is_starve is_full is_stop : Bool)
    (fields : List (List ℕ)) (what : What) →
    (if is_pin then option_map Pin (single_number_of fields) else if is_unpin then option_map Unpin
    (single_number_of fields) else if is_take then take_of fields else if is_install then install_of fields else if
    is_fail then fail_of fields else if is_spoil then spoil_of fields else if is_starve then option_map Starve
    (single_number_of fields) else if is_full then option_map Full
    (single_number_of fields) else if is_stop then stop_of fields else None) ≡ Some what → IsTypedWhat what
by_word true b c d e f g h i fields what is =
    mapped IsTypedWhat Pin (single_number_of fields) what (single_number fields) is
by_word false true c d e f g h i fields what is =
    mapped IsTypedWhat Unpin (single_number_of fields) what (single_number fields) is
by_word false false true d e f g h i fields what is = take fields what is
by_word false false false true e f g h i fields what is = install fields what is
by_word false false false false true f g h i fields what is = fail fields what is
by_word false false false false false true g h i fields what is = spoil fields what is
by_word false false false false false false true h i fields what is =
    mapped IsTypedWhat Starve (single_number_of fields) what (single_number fields) is
by_word false false false false false false false true i fields what is =
    mapped IsTypedWhat Full (single_number_of fields) what (single_number fields) is
by_word false false false false false false false false true fields what is = stop fields what is
by_word false false false false false false false false false fields what is = cc

event_without_list : (word : List ℕ) (fields : List (List ℕ)) (what : What) →
    event_without_list_of word fields ≡ Some what → IsTypedWhat what
unfolding event_without_list_of
event_without_list word fields what e =
    by_word (bytes_eq word (codes "pin")) (bytes_eq word (codes "unpin")) (bytes_eq word (codes "take"))
    (bytes_eq word (codes "install")) (bytes_eq word (codes "fail")) (bytes_eq word (codes "spoil"))
    (bytes_eq word (codes "starve")) (bytes_eq word (codes "full")) (bytes_eq word (codes "stop")) fields what e

-- those with lists, by which word it is
by_list_word : (is_settle is_ask is_narrow : Bool) (word : List ℕ) (fields : List (List ℕ)) (what : What) →
    (if is_settle then settle_of fields else if is_ask then option_map (λ found. Ask found.0 found.1)
    (frame_and_pages_of fields) else if is_narrow then option_map (λ found. Narrow found.0 found.1)
    (frame_and_pages_of fields) else event_without_list_of word fields) ≡ Some what → IsTypedWhat what
by_list_word true b c word fields what is = settle fields what is
by_list_word false true c word fields what is =
    mapped IsTypedWhat (λ found. Ask found.0 found.1) (frame_and_pages_of fields) what
    (λ found so. frame_and_pages fields found so) is
by_list_word false false true word fields what is =
    mapped IsTypedWhat (λ found. Narrow found.0 found.1) (frame_and_pages_of fields) what
    (λ found so. frame_and_pages fields found so) is
by_list_word false false false word fields what is = event_without_list word fields what is

event : (word : List ℕ) (fields : List (List ℕ)) (what : What) → event_of word fields ≡ Some what → IsTypedWhat what
unfolding event_of
event word fields what e =
    by_list_word (bytes_eq word (codes "settle")) (bytes_eq word (codes "ask"))
    (bytes_eq word (codes "narrow")) word fields what e

entry : (fields : List (List ℕ)) (found : Entry) → entry_of fields ≡ Some found → IsTyped found
unfolding entry_of
entry fields found e =
    let a = bind_some (split_first fields) _ found e in
    let by = bind_some (number_of (2 ^ 32) a.0.0) _ found a.2 in
    let b = bind_some (split_first a.0.1) _ found by.2 in
    let what = bind_some (event_of b.0.0 b.0.1) _ found b.2 in
    read_as IsTyped (record { by = by.0; what = what.0 }) found
    (number_32 a.0.0 by.0 by.1, event b.0.0 b.0.1 what.0 what.1) what.2

-- a journal whose entries are
abbrev HasTypedEntries : Journal → Type 0
HasTypedEntries journal = All IsTyped journal.entries

guarded : {A : Type 0} (test : Bool) (x y : A) → (if test then Some x else None) ≡ Some y → x ≡ y
guarded true x y e = cc
guarded false x y e = cc

upper_keeps : (journal next : Journal) (fields : List (List ℕ)) → HasTypedEntries journal →
    with_upper journal fields ≡ Some next → HasTypedEntries next
unfolding with_upper
upper_keeps journal next fields h e =
    let a = bind_some (split_first fields) _ next e in
    let page = bind_some (number_of journal.layout.pages a.0.0) _ next a.2 in
    let list = bind_some (some_numbers_of page.0 a.0.1) _ next page.2 in
    subst HasTypedEntries (guarded _ _ next list.2) h

entry_keeps : (journal next : Journal) (fields : List (List ℕ)) → HasTypedEntries journal →
    with_entry journal fields ≡ Some next → HasTypedEntries next
unfolding with_entry
entry_keeps journal next fields h e =
    mapped HasTypedEntries (λ entry. record journal { entries = journal.entries ++ entry ∷ [] }) (entry_of fields) next
    (λ found is. All-push IsTyped journal.entries found h (entry fields found is)) e

either_keeps : (journal next : Journal) (rest : Option (List (List ℕ))) (fields : List (List ℕ)) →
    HasTypedEntries journal → option_map_or (with_upper journal) rest (with_entry journal fields) ≡ Some next →
    HasTypedEntries next
either_keeps journal next None fields h e = entry_keeps journal next fields h e
either_keeps journal next (Some rest) fields h e = upper_keeps journal next rest h e

line_keeps : LinesKeep HasTypedEntries
unfolding with_line
line_keeps None next fields h e =
    mapped HasTypedEntries (λ layout. record { layout = layout; entries = [] }) (layout_of fields) next
    (λ layout is. All-nil IsTyped) e
line_keeps (Some journal) next fields h e = either_keeps journal next (after_word (codes "upper") fields) fields h e

all_uppers_keep : (journal : Journal) → HasTypedEntries journal → HasTypedEntries (with_all_uppers journal)
unfolding with_all_uppers
all_uppers_keep journal h = h

-- the entries that a text spells
pub journal_typed : (text : List ℕ) (journal : Journal) → journal_of text ≡ Ok journal → All IsTyped journal.entries
journal_typed text journal e = journal_keeps HasTypedEntries HasTypedEntries line_keeps all_uppers_keep text journal e
