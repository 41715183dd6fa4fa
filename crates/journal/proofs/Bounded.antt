-- A journal that a text spells has a layout in bounds.
use Rattle.std.proofs.Common.{◌≡◌, ◌&&◌, ℕ, ◌+◌, ◌-◌, ◌<◌, ◌≤◌, ◌^◌, List, [], ◌∷◌, ◌++◌, Bool, true, false, Option}
use Rattle.std.proofs.Common.{None, Some, Ok, codes, length, get_or, replicate, arith, inl, inr, refl, subst, sym, ap}
use Rattle.std.proofs.Common.{◌∙◌, length-append}
use Rattle.std.specs.Prelude.{if◌then◌else◌, nat_le, slice_index_or, EachIndex}
use Rattle.std.specs.List.{All}
use Rattle.std.specs.Option.{option_map, option_map_or}
use Rattle.std.specs.Str.Parse.{digits_value}
use Rattle.std.proofs.Math.ListN.{get_or-append}
use Rattle.journal.specs.declared.entries.Entry.{Entry}
use Rattle.std.proofs.Math.Seq.{get_or-append_right, get_or-append_seam}
use Rattle.std.proofs.lemmas.Bool.{cases_lt}
use Rattle.std.proofs.lemmas.List.{get_or_past, length-replicate, get_or-replicate}
use Rattle.std.proofs.lemmas.List.Elements.{All-cons, All-nil}
use Rattle.journal.proofs.FittingUppers.{all_below-from_All, at_least, both}
use Rattle.journal.proofs.KeptByLines.{LinesKeep, journal_keeps}
use Rattle.geom_core.specs.declared.limits.TheConstants.{MAX_PAGES}
use Rattle.journal.specs.Layout.{CountsFit, InBounds, UppersFit, ascends}
use Rattle.journal.specs.Grammar.{◌>>=◌, after_word, below, with_all_uppers, split_first, is_empty, is_numeral}
use Rattle.journal.specs.Grammar.{journal_of, layout_of, number_of, numbers_of, some_numbers_of, triple, up_to}
use Rattle.journal.specs.Grammar.{with_entry, with_line, with_upper, entry_of}
use Rattle.journal.specs.declared.journals.Journal.{Journal}
use Rattle.journal.specs.declared.layouts.Layout.{Layout}

-- each list of lists without anything has nothing
abbrev nothing : List ℕ
nothing = []

get_or_replicated : (n k : ℕ) → get_or (replicate n nothing) k nothing ≡ nothing
get_or_replicated n k =
    elim (cases_lt k n) [
      | inl lt ↦ get_or-replicate n k nothing nothing lt
      | inr le ↦ get_or_past (replicate n nothing) k nothing (omega (arith, length-replicate n nothing, le))
    ]

-- the first reading gave something, where both together did
pub bind_some : {A B : Type 0} (first : Option A) (next : A → Option B) (y : B) → (first >>= next) ≡ Some y → (x : A) ×
    (first ≡ Some x) × (next x ≡ Some y)
bind_some None next y e = cc
bind_some (Some x) next y e = (x, refl, e)

-- a number that was read is below its limit
test_lt : (test : Bool) (limit v n : ℕ) → (if test then below limit v else None) ≡ Some n → n < limit
test_lt true limit v n e = grind arith
test_lt false limit v n e = cc

pub number_lt : (limit : ℕ) (field : List ℕ) (n : ℕ) → number_of limit field ≡ Some n → n < limit
unfolding number_of
number_lt limit field n e = test_lt (is_numeral field) limit (digits_value 10 field) n e

numbers_step : (limit n : ℕ) (more all : List ℕ) → n < limit → All (λ n. n < limit) more → Some (n ∷ more) ≡ Some all →
    All (λ n. n < limit) all
numbers_step limit n more all lt rest e =
    let is : n ∷ more ≡ all = cc in subst (All (λ n. n < limit)) is (All-cons (λ n. n < limit) n more lt rest)

numbers_lt : (limit : ℕ) (fields : List (List ℕ)) (numbers : List ℕ) → numbers_of limit fields ≡ Some numbers →
    All (λ n. n < limit) numbers
numbers_lt limit [] numbers e =
    let is : [] ≡ numbers = cc in subst (All (λ n. n < limit)) is (All-nil (λ n. n < limit))
numbers_lt limit (field ∷ rest) numbers e =
    let first = bind_some (number_of limit field) _ numbers e in
    let more = bind_some (numbers_of limit rest) _ numbers first.2 in
    numbers_step limit first.0 more.0 numbers (number_lt limit field first.0 first.1)
    (numbers_lt limit rest more.0 more.1) more.2

-- numbers that were read are below their limit
pub some_numbers_lt : (limit : ℕ) (fields : List (List ℕ)) (numbers : List ℕ) →
    some_numbers_of limit fields ≡ Some numbers → All (λ n. n < limit) numbers
some_numbers_lt limit [] numbers e = cc
some_numbers_lt limit (field ∷ rest) numbers e = numbers_lt limit (field ∷ rest) numbers e

-- what the lines up to some one say of the layout: it is in bounds, but for pages without a list yet
pub record HasBuilderBounds (layout : Layout) : Type 0 where
  pub listed : length layout.uppers ≤ layout.pages
  pub counts : CountsFit layout
  pub below : EachIndex layout.uppers (λ page. UppersFit page (slice_index_or layout.uppers page []))

tested : {A : Type 0} (a b : Bool) (x y : A) → (if a && b then Some x else None) ≡ Some y → (a ≡ true) × (b ≡ true) ×
    (x ≡ y)
tested true true x y e = let is : x ≡ y = cc in (refl, refl, is)
tested true false x y e = cc
tested false b x y e = cc

abbrev started : ℕ → ℕ → ℕ → Layout
started pages roots slots = record { pages = pages; roots = roots; slots = slots; uppers = [] }

started_bounds : (pages roots slots : ℕ) → pages < MAX_PAGES + 1 → roots < pages + 1 → slots < MAX_PAGES + 1 →
    1 ≤ roots → roots ≤ slots → HasBuilderBounds (started pages roots slots)
started_bounds pages roots slots p r s some hold =
    record {
      listed = omega arith;
      counts = record {
        some_root = some;
        roots_are_pages = omega (arith, r);
        page_limit = omega (arith, p);
        roots_fit = hold;
        slot_limit = omega (arith, s);
      };
      below = λ page lt. absurd (omega (arith, lt));
    }

layout_bounds : (fields : List (List ℕ)) (layout : Layout) → layout_of fields ≡ Some layout → HasBuilderBounds layout
unfolding layout_of
layout_bounds fields layout e =
    let a = bind_some (after_word (codes "layout") fields) _ layout e in
    let b = bind_some (triple a.0) _ layout a.2 in
    let pages = bind_some (number_of (MAX_PAGES + 1) b.0.0) _ layout b.2 in
    let roots = bind_some (number_of (pages.0 + 1) b.0.1) _ layout pages.2 in
    let slots = bind_some (number_of (MAX_PAGES + 1) b.0.2) _ layout roots.2 in
    let t = tested (nat_le 1 roots.0) (nat_le roots.0 slots.0) (started pages.0 roots.0 slots.0) layout slots.2 in
    subst HasBuilderBounds t.2
    (started_bounds pages.0 roots.0 slots.0 (number_lt _ _ _ pages.1) (number_lt _ _ _ roots.1)
    (number_lt _ _ _ slots.1) (at_least _ _ t.0) (at_least _ _ t.1))

-- the list of a page that has none is one of uppers
none_are : (page : ℕ) → UppersFit page []
none_are page = (refl, refl)

-- a list at a place of lists that were filled up
filled : (uppers : List (List ℕ)) (k n : ℕ) → EachIndex uppers (λ page. UppersFit page (get_or uppers page [])) →
    UppersFit k (get_or (uppers ++ replicate n []) k [])
filled uppers k n each =
    elim (cases_lt k (length uppers)) [
      | inl lt ↦ subst (UppersFit k) (sym (get_or-append uppers (replicate n nothing) nothing k lt)) (each k lt)
      | inr le ↦ subst (UppersFit k) (sym (get_or-append_right uppers (replicate n nothing) k nothing le ∙
          get_or_replicated n (k - length uppers))) (none_are k)
    ]

pub length-up_to : (uppers : List (List ℕ)) (page : ℕ) → length uppers ≤ page → length (up_to uppers page) ≡ page
length-up_to uppers page le =
    omega (
      arith,
      le,
      length-append uppers (replicate (page - length uppers) nothing),
      length-replicate (page - length uppers) nothing,
    )

-- the lists up to that of a page, and its list
listed_below : (uppers : List (List ℕ)) (page : ℕ) (listed : List ℕ) → length uppers ≤ page →
    EachIndex uppers (λ page. UppersFit page (get_or uppers page [])) → UppersFit page listed →
    EachIndex (up_to uppers page ++ listed ∷ []) (λ k. UppersFit k (get_or (up_to uppers page ++ listed ∷ []) k []))
listed_below uppers page listed le each are k lt =
    let long = length-up_to uppers page le in
    elim (cases_lt k page) [
      | inl before ↦
          subst (UppersFit k) (sym (get_or-append (up_to uppers page) (listed ∷ []) nothing k
          (omega (arith, long, before))))
          (filled uppers k (page - length uppers) each)
      | inr past ↦
          let at : k ≡ page = omega (arith, long, past, lt, length-append (up_to uppers page) (listed ∷ [])) in
          let is : get_or (up_to uppers page ++ listed ∷ []) k nothing ≡ listed =
          ap (λ n. get_or (up_to uppers page ++ listed ∷ []) n nothing) (at ∙ sym long) ∙
          get_or-append_seam (up_to uppers page) listed [] nothing
          in
          subst (UppersFit k) (sym is) (subst (λ n. UppersFit n listed) (sym at) are)
    ]

abbrev given : Layout → ℕ → List ℕ → Layout
given layout page listed = record layout { uppers = up_to layout.uppers page ++ listed ∷ [] }

-- the counts fit whatever the lists of uppers are
counts_with : (layout : Layout) (uppers : List (List ℕ)) → CountsFit layout →
    CountsFit (record layout { uppers = uppers })
counts_with layout uppers h = record {
  some_root = h.some_root;
  roots_are_pages = h.roots_are_pages;
  page_limit = h.page_limit;
  roots_fit = h.roots_fit;
  slot_limit = h.slot_limit;
}

given_bounds : (layout : Layout) (page : ℕ) (listed : List ℕ) → HasBuilderBounds layout → length layout.uppers ≤ page →
    page < layout.pages → UppersFit page listed → HasBuilderBounds (given layout page listed)
given_bounds layout page listed h le lt are =
    record {
      listed =
          omega (arith, length-append (up_to layout.uppers page) (listed ∷ []), length-up_to layout.uppers page le, lt);
      counts = counts_with layout (up_to layout.uppers page ++ listed ∷ []) h.counts;
      below = listed_below layout.uppers page listed le h.below are;
    }

upper_bounds : (journal next : Journal) (fields : List (List ℕ)) → HasBuilderBounds journal.layout →
    with_upper journal fields ≡ Some next → HasBuilderBounds next.layout
unfolding with_upper
upper_bounds journal next fields h e =
    let a = bind_some (split_first fields) _ next e in
    let page = bind_some (number_of journal.layout.pages a.0.0) _ next a.2 in
    let listed = bind_some (some_numbers_of page.0 a.0.1) _ next page.2 in
    let given_page : Journal = record journal { layout = given journal.layout page.0 listed.0 } in
    let t =
    tested (is_empty journal.entries && nat_le (length journal.layout.uppers) page.0)
    (ascends listed.0) given_page next listed.2 in
    let u = both (is_empty journal.entries) (nat_le (length journal.layout.uppers) page.0) t.0 in
    subst (λ next. HasBuilderBounds next.layout) t.2
    (given_bounds journal.layout page.0 listed.0 h (at_least _ _ u.1) (number_lt _ _ _ page.1)
    (t.1, all_below-from_All page.0 listed.0 (some_numbers_lt page.0 a.0.1 listed.0 listed.1)))

entry_keeps : (journal next : Journal) (entry : Option Entry) → HasBuilderBounds journal.layout →
    option_map (λ entry. record journal { entries = journal.entries ++ entry ∷ [] }) entry ≡ Some next →
    HasBuilderBounds next.layout
entry_keeps journal next None h e = cc
entry_keeps journal next (Some entry) h e =
    let with_entry : Journal = record journal { entries = journal.entries ++ entry ∷ [] } in
    let is : with_entry ≡ next = cc in
    subst (λ next. HasBuilderBounds next.layout) is h

entry_bounds : (journal next : Journal) (fields : List (List ℕ)) → HasBuilderBounds journal.layout →
    with_entry journal fields ≡ Some next → HasBuilderBounds next.layout
unfolding with_entry
entry_bounds journal next fields h e = entry_keeps journal next (entry_of fields) h e

layout_line_bounds : (layout : Option Layout) (next : Journal) →
    ((found : Layout) → layout ≡ Some found → HasBuilderBounds found) →
    option_map (λ layout. record { layout = layout; entries = [] }) layout ≡ Some next → HasBuilderBounds next.layout
layout_line_bounds None next h e = cc
layout_line_bounds (Some layout) next h e =
    let from_layout_line : Journal = record { layout = layout; entries = [] } in
    let is : from_layout_line ≡ next = cc in
    subst (λ next. HasBuilderBounds next.layout) is (h layout refl)

either_bounds : (journal next : Journal) (rest : Option (List (List ℕ))) (fields : List (List ℕ)) →
    HasBuilderBounds journal.layout → option_map_or (with_upper journal) rest (with_entry journal fields) ≡ Some next →
    HasBuilderBounds next.layout
either_bounds journal next None fields h e = entry_bounds journal next fields h e
either_bounds journal next (Some rest) fields h e = upper_bounds journal next rest h e

-- a journal so far that is in bounds
abbrev IsBoundedBuilder : Journal → Type 0
IsBoundedBuilder journal = HasBuilderBounds journal.layout

line_bounds : LinesKeep IsBoundedBuilder
unfolding with_line
line_bounds None next fields h e =
    layout_line_bounds (layout_of fields) next (λ found is. layout_bounds fields found is) e
line_bounds (Some journal) next fields h e = either_bounds journal next (after_word (codes "upper") fields) fields h e

all_uppers_bounds : (journal : Journal) → HasBuilderBounds journal.layout → InBounds (with_all_uppers journal).layout
unfolding with_all_uppers
all_uppers_bounds journal h =
    record {
      counts = counts_with journal.layout (up_to journal.layout.uppers journal.layout.pages) h.counts;
      list_a_page = length-up_to journal.layout.uppers journal.layout.pages h.listed;
      uppers = λ k lt. filled journal.layout.uppers k (journal.layout.pages - length journal.layout.uppers) h.below;
    }

-- the layout that a text spells
pub journal_bounds : (text : List ℕ) (journal : Journal) → journal_of text ≡ Ok journal → InBounds journal.layout
journal_bounds text journal e =
    journal_keeps IsBoundedBuilder (λ journal. InBounds journal.layout) line_bounds all_uppers_bounds text journal e
