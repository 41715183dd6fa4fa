-- A printed journal reads back, line by line.
use Rattle.std.proofs.Common.{◌≡◌, true, ℕ, ◌+◌, ◌-◌, ◌<◌, ◌≤◌, ◌^◌, List, [], ◌∷◌, ◌++◌, suc, Option, None, Some}
use Rattle.std.proofs.Common.{Result, Ok, Err, codes, length, get_or, map, replicate, arith, append_assoc}
use Rattle.std.proofs.Common.{length-append, refl, subst, sym, ap, ◌∙◌}
use Rattle.std.specs.Prelude.{if◌then◌else◌}
use Rattle.std.specs.Fmt.{decimal}
use Rattle.std.specs.List.{All, join_with_byte}
use Rattle.std.specs.Option.{option_map, option_map_or}
use Rattle.std.proofs.lemmas.List.{append-nil}
use Rattle.std.proofs.lemmas.List.Elements.{All-append, All-cons, All-head, All-map, All-nil, All-tail, All-weaker}
use Rattle.journal.proofs.FittingUppers.{All-from_all_below, is_least}
use Rattle.journal.proofs.Bounded.{length-up_to}
use Rattle.journal.proofs.Padding.{up_to_more}
use Rattle.journal.proofs.PrintedEntries.{entry_no_upper, entry_printed, numbers_decimal}
use Rattle.journal.proofs.PrintedLines.{entry_plain, layout_plain, upper_plain}
use Rattle.journal.proofs.PrintedNumbers.{number_decimal}
use Rattle.journal.proofs.PrintedFields.{IsPlainLine, lines_of_printed, no_comment_join, fields_of_join}
use Rattle.geom_core.specs.declared.limits.TheConstants.{MAX_PAGES}
use Rattle.journal.specs.Layout.{InBounds, UppersFit, ascends}
use Rattle.journal.specs.Grammar.{with_all_uppers, journal_of, layout_of, fields_of, read_from, up_to, with_entry}
use Rattle.journal.specs.Grammar.{with_line, with_upper}
use Rattle.journal.specs.Spelling.{entry_fields, journal_bytes, journal_lines, layout_fields, upper_lines}
use Rattle.journal.specs.Typed.{Is32, IsTyped}
use Rattle.journal.specs.declared.entries.Entry.{Entry}
use Rattle.journal.specs.declared.journals.Journal.{Journal}
use Rattle.journal.specs.declared.layouts.Layout.{Layout}

-- a printed line's text
abbrev joined : List (List ℕ) → List ℕ
joined line = join_with_byte 32 line

read_printed : (so_far : Option Journal) (n : ℕ) (line : List (List ℕ)) (lines : List (List ℕ)) → IsPlainLine line →
    read_from so_far n (joined line ∷ lines) ≡ option_map_or (λ journal. read_from (Some journal) (n + 1) lines)
    (with_line so_far line) (Err n)
read_printed so_far n [] lines plain = absurd plain
read_printed so_far n (field ∷ rest) lines plain =
    ap (λ comment. if comment then read_from so_far (n + 1) lines else option_map_or
    (λ journal. read_from (Some journal) (n + 1) lines) (with_line so_far (fields_of (joined (field ∷ rest))))
    (Err n)) (no_comment_join field rest plain)
    ∙ ap (λ fields. option_map_or (λ journal. read_from (Some journal) (n + 1) lines) (with_line so_far fields) (Err n))
    (fields_of_join field rest plain)

-- what a printed line says, and then the others
read_step : (so_far : Option Journal) (next : Journal) (n : ℕ) (line : List (List ℕ)) (lines : List (List ℕ)) →
    IsPlainLine line → with_line so_far line ≡ Some next →
    read_from so_far n (joined line ∷ lines) ≡ read_from (Some next) (n + 1) lines
read_step so_far next n line lines plain e =
    read_printed so_far n line lines plain
    ∙ ap (λ after. option_map_or (λ journal. read_from (Some journal) (n + 1) lines) after (Err n)) e

abbrev journal_with : Layout → List Entry → Journal
journal_with layout entries = record { layout = layout; entries = entries }

-- the lines of entries
entry_line : (layout : Layout) (so_far : List Entry) (entry : Entry) → IsTyped entry →
    with_line (Some (journal_with layout so_far)) (entry_fields entry) ≡ Some
    (journal_with layout (so_far ++ entry ∷ []))
unfolding with_line with_entry
entry_line layout so_far entry h =
    ap (λ rest. option_map_or (with_upper (journal_with layout so_far)) rest
    (with_entry (journal_with layout so_far) (entry_fields entry))) (entry_no_upper entry h)
    ∙ ap (λ read. option_map (λ entry. journal_with layout (so_far ++ entry ∷ [])) read) (entry_printed entry h)

entries_read : (entries so_far : List Entry) (layout : Layout) (n : ℕ) → All IsTyped entries →
    read_from (Some (journal_with layout so_far)) n (map joined (map entry_fields entries)) ≡ Ok
    (with_all_uppers (journal_with layout (so_far ++ entries)))
entries_read [] so_far layout n h =
    ap (λ entries. Ok (with_all_uppers (journal_with layout entries))) (sym (append-nil so_far))
entries_read (entry ∷ rest) so_far layout n h =
    let typed = All-head IsTyped entry rest h in
    read_step (Some (journal_with layout so_far)) (journal_with layout (so_far ++ entry ∷ [])) n (entry_fields entry)
    (map joined (map entry_fields rest))
    (entry_plain entry typed) (entry_line layout so_far entry typed)
    ∙ entries_read rest (so_far ++ entry ∷ []) layout (n + 1) (All-tail IsTyped entry rest h)
    ∙ ap (λ entries. Ok (with_all_uppers (journal_with layout entries))) (append_assoc so_far (entry ∷ []) rest)

-- the lines of uppers
abbrev with_lists : Layout → List (List ℕ) → Layout
with_lists layout uppers = record layout { uppers = uppers }

upper_line : (layout : Layout) (page upper : ℕ) (uppers : List ℕ) → length layout.uppers ≤ page → page < layout.pages →
    layout.pages ≤ MAX_PAGES → UppersFit page (upper ∷ uppers) →
    with_line (Some (journal_with layout [])) (codes "upper" ∷ decimal page ∷ decimal upper ∷ map decimal uppers) ≡ Some
    (journal_with (with_lists layout (up_to layout.uppers page ++ (upper ∷ uppers) ∷ [])) [])
unfolding with_line with_upper
upper_line layout page upper uppers short lt fits are =
    let number = number_decimal layout.pages page lt (omega (arith, lt, fits)) in
    let listed =
    numbers_decimal page (upper ∷ uppers) (omega (arith, lt, fits))
    (All-from_all_below page (upper ∷ uppers) are.1) in
    let within = is_least (length layout.uppers) page short in
    let ascending : ascends (upper ∷ uppers) ≡ true = are.0 in
    simp (number, listed, within, ascending) refl

-- the lists of the pages from `page` on
abbrev ListsFrom : ℕ → List (List ℕ) → Type 0
ListsFrom page [] = Unit {0}
ListsFrom page (listed ∷ rest) = UppersFit page listed × ListsFrom (page + 1) rest

lists_from : (rest : List (List ℕ)) (page : ℕ) → ((i : ℕ) → i < length rest → UppersFit (page + i) (get_or rest i [])) →
    ListsFrom page rest
lists_from [] page each = tt
lists_from (listed ∷ rest) page each =
    let here : page + 0 ≡ page = omega arith in
    let first : 0 < length (listed ∷ rest) = omega arith in (
      subst (λ p. UppersFit p listed) here (each 0 first),
      lists_from rest (page + 1) (λ i lt.
          let next : page + suc i ≡ page + 1 + i = omega arith in
          let inside : suc i < length (listed ∷ rest) = omega (arith, lt) in
          subst (λ p. UppersFit p (get_or rest i [])) next (each (suc i) inside)),
    )

up_to_full : (uppers : List (List ℕ)) (page : ℕ) → length uppers ≡ page → up_to uppers page ≡ uppers
up_to_full uppers page e =
    let no_gap : page - length uppers ≡ 0 = omega (arith, e) in
    ap (λ gap. uppers ++ replicate gap []) no_gap ∙ append-nil uppers

one_list_more : (uppers more : List (List ℕ)) (page : ℕ) (listed : List ℕ) → length uppers ≤ page →
    up_to (up_to uppers page ++ listed ∷ []) (page + 1) ++ more ≡ up_to uppers page ++ listed ∷ more
one_list_more uppers more page listed le =
    let long : length (up_to uppers page ++ listed ∷ []) ≡ page + 1 =
    omega (arith, length-append (up_to uppers page) (listed ∷ []), length-up_to uppers page le) in
    ap (λ lists. lists ++ more) (up_to_full (up_to uppers page ++ listed ∷ []) (page + 1) long) ∙
    append_assoc (up_to uppers page) (listed ∷ []) more

no_list_more : (uppers more : List (List ℕ)) (page : ℕ) → length uppers ≤ page →
    up_to uppers (page + 1) ++ more ≡ up_to uppers page ++ [] ∷ more
no_list_more uppers more page le =
    ap (λ lists. lists ++ more) (sym (up_to_more uppers page le)) ∙ append_assoc (up_to uppers page) ([] ∷ []) more

abbrev answer : Layout → List Entry → List (List ℕ) → Result Journal ℕ
answer layout entries uppers = Ok (journal_with (with_lists layout uppers) entries)

all_uppers_is : (layout : Layout) (entries : List Entry) (page : ℕ) → page ≡ layout.pages →
    Ok (with_all_uppers (journal_with layout entries)) ≡ answer layout entries (up_to layout.uppers page ++ [])
unfolding with_all_uppers
all_uppers_is layout entries page e =
    ap (answer layout entries) (ap (up_to layout.uppers) (sym e) ∙ sym (append-nil (up_to layout.uppers page)))

uppers_read : (rest : List (List ℕ)) (layout : Layout) (page n : ℕ) (entries : List Entry) →
    length layout.uppers ≤ page → page + length rest ≡ layout.pages → layout.pages ≤ MAX_PAGES → ListsFrom page rest →
    All IsTyped entries → read_from (Some (journal_with layout [])) n
    (map joined (upper_lines page rest ++ map entry_fields entries)) ≡ answer layout entries
    (up_to layout.uppers page ++ rest)
uppers_read [] layout page n entries short all fits lists h =
    entries_read entries [] layout n h ∙ all_uppers_is layout entries page (omega (arith, all))
uppers_read ([] ∷ more) layout page n entries short all fits lists h =
    uppers_read more layout (page + 1) n entries (omega (arith, short)) (omega (arith, all)) fits lists.1 h
    ∙ ap (answer layout entries) (no_list_more layout.uppers more page short)
uppers_read ((upper ∷ uppers) ∷ more) layout page n entries short all fits lists h =
    let lt : page < layout.pages = omega (arith, all) in
    let lists_now = up_to layout.uppers page ++ (upper ∷ uppers) ∷ [] in
    let are_32 : All Is32 (upper ∷ uppers) =
    All-weaker (λ u. u < page) Is32 (λ u below. omega (arith, below, lt, fits)) (upper ∷ uppers)
    (All-from_all_below page (upper ∷ uppers) lists.0.1) in
    let long : length lists_now ≤ page + 1 =
    omega (
      arith,
      length-append (up_to layout.uppers page) ((upper ∷ uppers) ∷ []),
      length-up_to layout.uppers page short,
    ) in
    read_step (Some (journal_with layout [])) (journal_with (with_lists layout lists_now) []) n
    (codes "upper" ∷ decimal page ∷ decimal upper ∷ map decimal uppers)
    (map joined (upper_lines (page + 1) more ++ map entry_fields entries))
    (upper_plain page upper uppers (omega (arith, lt, fits)) are_32)
    (upper_line layout page upper uppers short lt fits lists.0)
    ∙ uppers_read more (with_lists layout lists_now) (page + 1) (n + 1) entries long (omega (arith, all)) fits lists.1 h
    ∙ ap (answer layout entries) (one_list_more layout.uppers more page (upper ∷ uppers) short)

-- the line of the layout
layout_line : (layout : Layout) → InBounds layout →
    with_line None (layout_fields layout) ≡ Some (journal_with (with_lists layout []) [])
unfolding with_line layout_of
layout_line layout h =
    let p = h.counts.page_limit in let r = h.counts.roots_are_pages in let s = h.counts.slot_limit in
    let pages = number_decimal (MAX_PAGES + 1) layout.pages (omega (arith, p)) (omega (arith, p)) in
    let roots = number_decimal (layout.pages + 1) layout.roots (omega (arith, r)) (omega (arith, p, r)) in
    let slots = number_decimal (MAX_PAGES + 1) layout.slots (omega (arith, s)) (omega (arith, s)) in
    let some = is_least 1 layout.roots h.counts.some_root in
    let hold = is_least layout.roots layout.slots h.counts.roots_fit in
    simp (pages, roots, slots, some, hold) refl

-- each line has plain fields
uppers_plain : (rest : List (List ℕ)) (page : ℕ) → page + length rest ≤ MAX_PAGES → ListsFrom page rest →
    All IsPlainLine (upper_lines page rest)
uppers_plain [] page fits lists = All-nil IsPlainLine
uppers_plain ([] ∷ more) page fits lists = uppers_plain more (page + 1) (omega (arith, fits)) lists.1
uppers_plain ((upper ∷ uppers) ∷ more) page fits lists =
    let are_32 : All Is32 (upper ∷ uppers) =
    All-weaker (λ u. u < page) Is32 (λ u below. omega (arith, below, fits)) (upper ∷ uppers)
    (All-from_all_below page (upper ∷ uppers) lists.0.1) in
    All-cons IsPlainLine (codes "upper" ∷ decimal page ∷ decimal upper ∷ map decimal uppers)
    (upper_lines (page + 1) more)
    (upper_plain page upper uppers (omega (arith, fits)) are_32)
    (uppers_plain more (page + 1) (omega (arith, fits)) lists.1)

uppers_lists : (layout : Layout) → InBounds layout → ListsFrom 0 layout.uppers
uppers_lists layout h =
    lists_from layout.uppers 0 (λ i lt. let same : i ≡ 0 + i =
    omega arith in subst (λ p. UppersFit p (get_or layout.uppers i [])) same (h.uppers i lt))

journal_plain : (layout : Layout) (entries : List Entry) → InBounds layout → All IsTyped entries →
    All IsPlainLine (journal_lines layout entries)
journal_plain layout entries h typed =
    let p =
    h.counts.page_limit in let r = h.counts.roots_are_pages in let s = h.counts.slot_limit in let c =
    h.list_a_page in
    All-cons IsPlainLine (layout_fields layout) (upper_lines 0 layout.uppers ++ map entry_fields entries)
    (layout_plain layout (omega (arith, p)) (omega (arith, p, r)) (omega (arith, s)))
    (All-append IsPlainLine (upper_lines 0 layout.uppers) (map entry_fields entries)
    (uppers_plain layout.uppers 0 (omega (arith, p, c)) (uppers_lists layout h))
    (All-map IsPlainLine entry_fields entries
    (All-weaker IsTyped (λ entry. IsPlainLine (entry_fields entry)) entry_plain entries typed)))

-- the law
pub reads_back : (layout : Layout) (entries : List Entry) → InBounds layout → All IsTyped entries →
    journal_of (journal_bytes layout entries) ≡ Ok (record { layout = layout; entries = entries })
reads_back layout entries h typed =
    let start = with_lists layout [] in
    let c = h.list_a_page in
    ap (read_from None 1) (lines_of_printed (journal_lines layout entries) (journal_plain layout entries h typed))
    ∙ read_step None (journal_with start []) 1 (layout_fields layout)
    (map joined (upper_lines 0 layout.uppers ++ map entry_fields entries))
    (All-head IsPlainLine (layout_fields layout) (upper_lines 0 layout.uppers ++ map entry_fields entries)
    (journal_plain layout entries h typed))
    (layout_line layout h)
    ∙ uppers_read layout.uppers start 0 2 entries (omega arith) (omega (arith, c)) h.counts.page_limit
    (uppers_lists layout h) typed
