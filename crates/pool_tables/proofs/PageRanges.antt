-- What holds of records that agree with a sound state: what the calls of the table require, and how many are held.
use Rattle.std.proofs.Common.{◌≡◌, ℕ, zero, suc, ◌+◌, ◌-◌, ◌^◌, ◌<◌, ◌≤◌, List, [], ◌∷◌, Bool, true, false, ◌||◌, ◌&&◌}
use Rattle.std.proofs.Common.{Option, is_some, get_or, length, map, fold, replicate, refl, sym, ap, ◌∙◌, arith, ⊎_elim}
use Rattle.std.proofs.Common.{filter, cond, None, Some}
use Rattle.std.specs.List.{count_by, range_with_len}
use Rattle.std.proofs.lemmas.List.{length-map}
use Rattle.std.proofs.lemmas.List.FromFn.{length-range_with_len}
use Rattle.std.proofs.lemmas.List.Sums.{count_by-le-length, sum_by-cons}
use Rattle.journal.specs.declared.entries.Entry.{Entry}
use Rattle.journal.specs.declared.entries.What.{What}
use Rattle.journal.specs.declared.entries.What.TheVariants.{Pin, Settle, Ask, Narrow, Unpin, Take, Install, Fail, Spoil}
use Rattle.journal.specs.declared.entries.What.TheVariants.{Starve, Full, Stop}
use Rattle.journal.specs.declared.layouts.Layout.{Layout}
use Rattle.journal.specs.Layout.{InBounds, page_numbers, uppers_of, is_upper}
use Rattle.pool_rules.specs.Numbers.{is_among}
use Rattle.pool_rules.specs.Sound.{IsSound}
use Rattle.pool_rules.specs.State.{State, is_resident, is_held, held_count, initial_state, state_after, state_of}
use Rattle.pool_rules.specs.State.{set_last_used, last_used_after, is_loading}
use Rattle.pool_rules.specs.Victim.{last_used_of}
use Rattle.pool_rules.proofs.Flags.{get_or-set_cases}
use Rattle.pool_rules.proofs.Lengths.{HasItemAPage}
use Rattle.pool_tables.specs.Changes.{times}
use Rattle.pool_tables.specs.PageRecords.{PageRecords, record_at, is_record_held, residents}
use Rattle.pool_tables.specs.PoolPages.{loader_number, ArePagesOf}
use Rattle.pool_tables.specs.declared.page_record.MakerId.{MakerId}
use Rattle.pool_tables.specs.declared.page_record.PageRecord.{PageRecord}
use Rattle.pool_tables.proofs.PageCounts.{one, count-least}
use Rattle.pool_tables.proofs.PoolPages.{resident_of, resident-at, loading-at, last_used-at, is_some-mapped}
use Rattle.pool_tables.proofs.PoolPages.{times-upper}
use Rattle.pool_tables.proofs.Victims.{upper-below}

-- ---- what the calls require

-- there is a record by page
pub record-a_page : (layout : Layout) (s : State) (table : PageRecords) → HasItemAPage layout s →
    ArePagesOf layout s table →
    length table.records ≡ layout.pages
record-a_page layout s table lists are =
    sym (length-map table.records resident_of) ∙ (ap length are.resident ∙ lists.flag_a_page)

-- a page's uppers have records
pub uppers-in_range : (layout : Layout) (s : State) (table : PageRecords) (page : ℕ) → InBounds layout →
    HasItemAPage layout s →
    ArePagesOf layout s table → page < layout.pages → (p : ℕ) → is_among (uppers_of layout page) p ≡ true →
    p < length table.records
uppers-in_range layout s table page bounds lists are below p upper =
    omega (arith, upper-below layout p page bounds upper, below, record-a_page layout s table lists are)

-- each upper of a held page that is no root page has a dependent
pub uppers-counted : (layout : Layout) (s : State) (table : PageRecords) (page : ℕ) → InBounds layout →
    ArePagesOf layout s table → is_held s page ≡ true → layout.roots ≤ page → page < layout.pages → (p : ℕ) →
    times (uppers_of layout page) p ≤ (record_at table.records p).dependents
uppers-counted layout s table page bounds are held no_root below p =
    let least = count-least (λ q. is_held s q && is_upper layout p q) layout.roots (layout.pages - layout.roots) page
    no_root (omega (arith, no_root, below)) in
    let here : one (is_held s page && is_upper layout p page) ≡ one (is_upper layout p page) =
    ap (λ b. one (b && is_upper layout p page)) held in
    omega (arith, times-upper layout page p bounds below, least, here, are.dependents p)

one-most : (b : Bool) → one b ≤ 1
one-most true = omega arith
one-most false = omega arith

-- the counts of dependents have room for one page more
pub uppers-room : (layout : Layout) (s : State) (table : PageRecords) (page : ℕ) → InBounds layout →
    ArePagesOf layout s table → page < layout.pages → (p : ℕ) →
    (record_at table.records p).dependents + times (uppers_of layout page) p < 2 ^ 32
uppers-room layout s table page bounds are below p =
    let others = range_with_len layout.roots (layout.pages - layout.roots) in
    let most = count_by-le-length (λ q. is_held s q && is_upper layout p q) others in
    let pages = length-range_with_len layout.roots (layout.pages - layout.roots) in
    omega (
      arith,
      times-upper layout page p bounds below,
      one-most (is_upper layout p page),
      most,
      pages,
      are.dependents p,
      bounds.counts.page_limit,
    )

-- a page that is not being loaded has no loader
pub loader-none : (layout : Layout) (s : State) (table : PageRecords) (page : ℕ) → ArePagesOf layout s table →
    is_loading s page ≡ false → (record_at table.records page).loader ≡ None
loader-none layout s table page are idle =
    none (record_at table.records page).loader (loading-at layout s table are page ∙ idle)
  where
    none : (loader : Option MakerId) → is_some loader ≡ false → loader ≡ None
    none None h = refl
    none (Some maker) h = cc

filter-same : (f g : ℕ → Bool) (numbers : List ℕ) → ((n : ℕ) → f n ≡ g n) → filter f numbers ≡ filter g numbers
filter-same f g [] same = refl
filter-same f g (n ∷ numbers) same =
    ap (λ b. cond b (n ∷ filter f numbers) (filter f numbers)) (same n)
    ∙ ap (λ rest. cond (g n) (n ∷ rest) rest) (filter-same f g numbers same)

-- the residents by the records are those of the state
pub residents-same : (layout : Layout) (s : State) (table : PageRecords) → HasItemAPage layout s →
    ArePagesOf layout s table → residents table.records ≡ filter (is_resident s) (page_numbers layout)
residents-same layout s table lists are =
    filter-same (λ page. (record_at table.records page).resident) (is_resident s)
    (range_with_len 0 (length table.records)) (resident-at layout s table are)
    ∙ ap (λ n. filter (is_resident s) (range_with_len 0 n)) (record-a_page layout s table lists are)

-- ---- no use comes after the last entry

-- each page was used at most at this count of entries
abbrev UsedBy : ℕ → List ℕ → Type 0
UsedBy count counts = (page : ℕ) → get_or counts page 0 ≤ count

used-by-set : (count : ℕ) (pages counts : List ℕ) → UsedBy count counts →
    UsedBy count (set_last_used count pages counts)
used-by-set count [] counts by = by
used-by-set count (page ∷ pages) counts by = used-by-set count pages _ (λ p.
    ⊎_elim (λ same. omega (arith, same, by p)) (λ here. omega (arith, here.1)) (get_or-set_cases counts page p count 0))

used-by-event : (s : State) (what : What) → UsedBy s.entries s.last_used →
    UsedBy (s.entries + 1) (last_used_after s what)
used-by-event s what by = by_event what
  where
    longer : UsedBy (s.entries + 1) s.last_used
    longer page = omega (arith, by page)

    by_event : (what : What) → UsedBy (s.entries + 1) (last_used_after s what)
    by_event (Pin frame) = longer
    by_event (Settle frame pages missing) = used-by-set (s.entries + 1) pages s.last_used longer
    by_event (Ask frame pages) = longer
    by_event (Narrow frame pages) = used-by-set (s.entries + 1) pages s.last_used longer
    by_event (Unpin frame) = longer
    by_event (Take frame page victim) = longer
    by_event (Install page digest) = used-by-set (s.entries + 1) (page ∷ []) s.last_used longer
    by_event (Fail page before after) = longer
    by_event (Spoil page why) = longer
    by_event (Starve page) = longer
    by_event (Full frame) = longer
    by_event Stop = longer

used-by-through : (entries : List Entry) (s : State) → UsedBy s.entries s.last_used →
    UsedBy (fold state_after s entries).entries (fold state_after s entries).last_used
used-by-through [] s by = by
used-by-through (e ∷ entries) s by = used-by-through entries (state_after s e) (used-by-event s e.what by)

used-by-none : (n : ℕ) → UsedBy 0 (replicate n 0)
used-by-none zero page = omega arith
used-by-none (suc n) zero = omega arith
used-by-none (suc n) (suc page) = used-by-none n page

pub last_used-entries : (layout : Layout) (journal : List Entry) (page : ℕ) →
    last_used_of (state_of layout journal) page ≤ (state_of layout journal).entries
last_used-entries layout journal page = used-by-through journal (initial_state layout) (used-by-none layout.pages) page

-- each use comes before the next entry
pub used-later : (layout : Layout) (journal : List Entry) (table : PageRecords) →
    ArePagesOf layout (state_of layout journal) table →
    (page : ℕ) → (record_at table.records page).last_used < (state_of layout journal).entries + 1
used-later layout journal table are page =
    omega (arith, last_used-at layout (state_of layout journal) table are page, last_used-entries layout journal page)

-- ---- how many are held

one-either : (a b : Bool) → (a ≡ true → b ≡ true → ⊥) → one (a || b) ≡ one a + one b
one-either true true apart = absurd (apart refl refl)
one-either true false apart = refl
one-either false b apart = let e : 0 + one b ≡ one b = omega arith in sym e

held-split : (records : List PageRecord) →
    ((page : ℕ) → (record_at records page).resident ≡ true → is_some (record_at records page).loader ≡ true → ⊥) →
    count_by is_record_held records ≡ count_by (λ b. b) (map resident_of records) + count_by is_some
    (map loader_number records)
held-split [] apart = refl
held-split (r ∷ records) apart =
    let rest = held-split records (λ page. apart (suc page)) in
    let here = one-either r.resident (is_some r.loader) (apart 0) in
    let loader : one (is_some r.loader) ≡ one (is_some (loader_number r)) = ap one (is_some-mapped r.loader) in
    let all = sum_by-cons (λ (x : PageRecord). one (is_record_held x)) r records in
    let residents = sum_by-cons one r.resident (map resident_of records) in
    let loaders = sum_by-cons (λ (o : Option ℕ). one (is_some o)) (loader_number r) (map loader_number records) in
    omega (arith, rest, here, loader, all, residents, loaders)

pub held-count : (layout : Layout) (s : State) (table : PageRecords) → IsSound layout s → ArePagesOf layout s table →
    count_by is_record_held table.records ≡ held_count s
held-count layout s table sound are =
    held-split table.records (λ page resident loading.
    sound.apart page (sym (resident-at layout s table are page) ∙ resident)
    (sym (loading-at layout s table are page) ∙ loading))
    ∙ (ap (λ flags. count_by (λ b. b) flags + count_by is_some (map loader_number table.records)) are.resident
    ∙ ap (λ makers. count_by (λ b. b) s.resident + count_by is_some makers) are.loading)
