-- The records of the pages agree with the state of the pool after no entry, and after each change of one entry.
use Rattle.std.proofs.Common.{◌≡◌, ◌≢◌, ℕ, zero, suc, ◌+◌, ◌-◌, ◌<◌, ◌≤◌, nat_lt, List, [], ◌∷◌, Bool, true, false}
use Rattle.std.proofs.Common.{cond, ◌||◌, ◌&&◌, ⊎_elim, Option, Some, None, is_some, get_or, set, length, map}
use Rattle.std.proofs.Common.{replicate, refl, sym, ap, ◌∙◌, arith, get_or-set_other, get_or-set_same, length-set}
use Rattle.std.proofs.Common.{eq-eqb, ◌==◌}
use Rattle.std.specs.List.{count_by, range_with_len}
use Rattle.std.proofs.Math.ListN.{get_or-map}
use Rattle.std.proofs.Math.Seq.{map-set_same}
use Rattle.std.proofs.lemmas.Bool.{cases_eq}
use Rattle.std.proofs.lemmas.List.{map-set, ext_get_or, length-map}
use Rattle.journal.specs.declared.layouts.Layout.{Layout}
use Rattle.journal.specs.Layout.{InBounds, page_numbers, uppers_of, is_upper}
use Rattle.pool_rules.specs.Numbers.{is_among}
use Rattle.pool_rules.specs.State.{State, is_resident, is_loading, is_held, initial_state, set_last_used}
use Rattle.pool_rules.proofs.Lengths.{HasItemAPage}
use Rattle.pool_rules.proofs.Soundness.{resident-root, none-loading}
use Rattle.pool_tables.specs.Changes.{used_if, times, AreUsed, HaveMoreDependents, HaveFewerDependents}
use Rattle.pool_tables.specs.PageRecords.{PageRecords, no_record, record_at, with_record, opening_record}
use Rattle.pool_tables.specs.PageRecords.{opening_records}
use Rattle.pool_tables.specs.PoolPages.{dependent_count, loader_number, ArePagesOf}
use Rattle.pool_tables.specs.declared.page_record.PageRecord.{PageRecord}
use Rattle.pool_tables.proofs.Apart.{ne-eqb}
use Rattle.pool_tables.proofs.Changes.{more-dependents, fewer-dependents}
use Rattle.pool_tables.proofs.PageCounts.{count-same}
use Rattle.pool_tables.proofs.PoolPages.{resident_of, used_of, maps-kept, field-kept, dependents-added}
use Rattle.pool_tables.proofs.PoolPages.{dependents-removed, dependents-same}

-- ---- after no entry

opening-map : {X : Type 0} (f : PageRecord → X) (g : ℕ → X) (roots : ℕ) (numbers : List ℕ) →
    ((q : ℕ) → f (opening_record roots q) ≡ g q) → map f (map (opening_record roots) numbers) ≡ map g numbers
opening-map f g roots [] same = refl
opening-map f g roots (n ∷ numbers) same =
    ap (λ x. x ∷ map f (map (opening_record roots) numbers)) (same n)
    ∙ ap (λ xs. g n ∷ xs) (opening-map f g roots numbers same)

map-constant : {X : Type 0} (v : X) (a n : ℕ) → map (λ (q : ℕ). v) (range_with_len a n) ≡ replicate n v
map-constant v a zero = refl
map-constant v a (suc n) = ap (λ vs. v ∷ vs) (map-constant v (a + 1) n)

opening-dependents : (roots : ℕ) (numbers : List ℕ) (page : ℕ) →
    (record_at (map (opening_record roots) numbers) page).dependents ≡ 0
opening-dependents roots [] page = refl
opening-dependents roots (n ∷ numbers) zero = refl
opening-dependents roots (n ∷ numbers) (suc page) = opening-dependents roots numbers page

-- no page but the root pages is held
none-held : (layout : Layout) (page : ℕ) → layout.roots ≤ page → is_held (initial_state layout) page ≡ false
none-held layout page no_root =
    ap (λ b. b || is_loading (initial_state layout) page) (absent (is_resident (initial_state layout) page) refl)
    ∙ none-loading layout.pages page
  where
    absent : (b : Bool) → is_resident (initial_state layout) page ≡ b → b ≡ false
    absent true is = absurd (omega (arith, no_root, resident-root layout page is))
    absent false is = refl

none-counted : (a n : ℕ) → count_by (λ (q : ℕ). false) (range_with_len a n) ≡ 0
none-counted a zero = refl
none-counted a (suc n) = none-counted (a + 1) n

pub ArePagesOf-opening : (layout : Layout) →
    ArePagesOf layout (initial_state layout) (opening_records layout.pages layout.roots)
ArePagesOf-opening layout =
    let numbers = page_numbers layout in
    record {
      roots = refl;
      resident = opening-map resident_of (λ page. nat_lt page layout.roots) layout.roots numbers (λ q. refl);
      loading = opening-map loader_number (λ page. None) layout.roots numbers (λ q. refl)
          ∙ map-constant None 0 layout.pages;
      last_used = opening-map used_of (λ page. 0) layout.roots numbers (λ q. refl) ∙ map-constant 0 0 layout.pages;
      dependents = λ page. opening-dependents layout.roots numbers page ∙ sym (none page);
    }
  where
    none : (page : ℕ) → dependent_count layout (initial_state layout) page ≡ 0
    none page =
        count-same (λ q. false) (λ q. is_held (initial_state layout) q && is_upper layout page q) layout.roots
        (layout.pages - layout.roots) (λ q le. ap (λ held. held && is_upper layout page q) (none-held layout q le))
        ∙ none-counted layout.roots (layout.pages - layout.roots)

-- ---- a page is evicted

pub ArePagesOf-evicted : (layout : Layout) (s : State) (page : ℕ) (old new : PageRecords) → InBounds layout →
    HasItemAPage layout s → ArePagesOf layout s old → is_resident s page ≡ true → is_loading s page ≡ false →
    layout.roots ≤ page → page < layout.pages →
    HaveFewerDependents (uppers_of layout page)
    (with_record old page (record (record_at old.records page) { resident = false })) new →
    ArePagesOf layout (record s { resident = set s.resident page false }) new
ArePagesOf-evicted layout s page old new bounds lists are resident idle no_root below fewer =
    let r : PageRecord = record (record_at old.records page) { resident = false } in
    let mid = with_record old page r in
    let t : State = record s { resident = set s.resident page false } in
    let others : (q : ℕ) → q ≢ page → is_held t q ≡ is_held s q =
    λ q other. ap (λ b. b || is_loading s q) (get_or-set_other s.resident page q false false other) in
    let held : is_held s page ≡ true = ap (λ b. b || is_loading s page) resident in
    let absent : is_held t page ≡ false =
    ap (λ b. b || is_loading s page) (get_or-set_same s.resident page false false
    (omega (arith, below, lists.flag_a_page))) ∙ idle in
    record {
      roots = fewer.roots ∙ are.roots;
      resident = maps-kept resident_of mid.records new.records fewer.len (λ p. ap resident_of (fewer.records p))
          ∙ (map-set resident_of old.records page r ∙ ap (λ flags. set flags page false) are.resident);
      loading = maps-kept loader_number mid.records new.records fewer.len (λ p. ap loader_number (fewer.records p))
          ∙ (map-set_same loader_number old.records page r no_record refl ∙ are.loading);
      last_used = maps-kept used_of mid.records new.records fewer.len (λ p. ap used_of (fewer.records p))
          ∙ (map-set_same used_of old.records page r no_record refl ∙ are.last_used);
      dependents = λ p. fewer-dependents (uppers_of layout page) mid new fewer p
          ∙ (ap (λ n. n - times (uppers_of layout page) p)
          (field-kept (λ (x : PageRecord). x.dependents) old.records page r p refl ∙ are.dependents p)
          ∙ dependents-removed layout s t page p bounds no_root below others held absent);
    }

-- ---- a page begins to be loaded, and ceases to be

pub ArePagesOf-taken : (layout : Layout) (s : State) (page by : ℕ) (old new : PageRecords) → InBounds layout →
    HasItemAPage layout s → ArePagesOf layout s old → is_held s page ≡ false → layout.roots ≤ page →
    page < layout.pages →
    HaveMoreDependents (uppers_of layout page)
    (with_record old page (record (record_at old.records page) { loader = Some (record { 0 = by }) })) new →
    ArePagesOf layout (record s { loading = set s.loading page (Some by) }) new
ArePagesOf-taken layout s page by old new bounds lists are absent no_root below more =
    let r : PageRecord = record (record_at old.records page) { loader = Some (record { 0 = by }) } in
    let mid = with_record old page r in
    let t : State = record s { loading = set s.loading page (Some by) } in
    let others : (q : ℕ) → q ≢ page → is_held t q ≡ is_held s q =
    λ q other. ap (λ maker. is_resident s q || is_some maker)
    (get_or-set_other s.loading page q (Some by) None other) in
    let held : is_held t page ≡ true =
    ap (λ maker. is_resident s page || is_some maker)
    (get_or-set_same s.loading page (Some by) None (omega (arith, below, lists.maker_a_page)))
    ∙ or-true (is_resident s page) in
    record {
      roots = more.roots ∙ are.roots;
      resident = maps-kept resident_of mid.records new.records more.len (λ p. ap resident_of (more.records p))
          ∙ (map-set_same resident_of old.records page r no_record refl ∙ are.resident);
      loading = maps-kept loader_number mid.records new.records more.len (λ p. ap loader_number (more.records p))
          ∙ (map-set loader_number old.records page r ∙ ap (λ makers. set makers page (Some by)) are.loading);
      last_used = maps-kept used_of mid.records new.records more.len (λ p. ap used_of (more.records p))
          ∙ (map-set_same used_of old.records page r no_record refl ∙ are.last_used);
      dependents = λ p. more-dependents (uppers_of layout page) mid new more p
          ∙ (ap (λ n. n + times (uppers_of layout page) p)
          (field-kept (λ (x : PageRecord). x.dependents) old.records page r p refl ∙ are.dependents p)
          ∙ sym (dependents-added layout s t page p bounds no_root below others absent held));
    }
  where
    or-true : (b : Bool) → (b || true) ≡ true
    or-true true = refl
    or-true false = refl

pub ArePagesOf-ended : (layout : Layout) (s : State) (page count : ℕ) (old new : PageRecords) → InBounds layout →
    HasItemAPage layout s → ArePagesOf layout s old → is_resident s page ≡ false → is_loading s page ≡ true →
    layout.roots ≤ page → page < layout.pages →
    HaveFewerDependents (uppers_of layout page)
    (with_record old page (record (record_at old.records page) { loader = None; load_ended_at = count })) new →
    ArePagesOf layout (record s { loading = set s.loading page None }) new
ArePagesOf-ended layout s page count old new bounds lists are absent loading no_root below fewer =
    let r : PageRecord = record (record_at old.records page) { loader = None; load_ended_at = count } in
    let mid = with_record old page r in
    let t : State = record s { loading = set s.loading page None } in
    let others : (q : ℕ) → q ≢ page → is_held t q ≡ is_held s q =
    λ q other. ap (λ maker. is_resident s q || is_some maker) (get_or-set_other s.loading page q None None other) in
    let held : is_held s page ≡ true = ap (λ b. is_resident s page || b) loading ∙ or-true (is_resident s page) in
    let no_more : is_held t page ≡ false =
    ap (λ maker. is_resident s page || is_some {T = ℕ} maker)
    (get_or-set_same s.loading page None None (omega (arith, below, lists.maker_a_page)))
    ∙ ap (λ b. b || false) absent in
    record {
      roots = fewer.roots ∙ are.roots;
      resident = maps-kept resident_of mid.records new.records fewer.len (λ p. ap resident_of (fewer.records p))
          ∙ (map-set_same resident_of old.records page r no_record refl ∙ are.resident);
      loading = maps-kept loader_number mid.records new.records fewer.len (λ p. ap loader_number (fewer.records p))
          ∙ (map-set loader_number old.records page r ∙ ap (λ makers. set makers page None) are.loading);
      last_used = maps-kept used_of mid.records new.records fewer.len (λ p. ap used_of (fewer.records p))
          ∙ (map-set_same used_of old.records page r no_record refl ∙ are.last_used);
      dependents = λ p. fewer-dependents (uppers_of layout page) mid new fewer p
          ∙ (ap (λ n. n - times (uppers_of layout page) p)
          (field-kept (λ (x : PageRecord). x.dependents) old.records page r p refl ∙ are.dependents p)
          ∙ dependents-removed layout s t page p bounds no_root below others held no_more);
    }
  where
    or-true : (b : Bool) → (b || true) ≡ true
    or-true true = refl
    or-true false = refl

-- ---- a page is installed

pub ArePagesOf-installed : (layout : Layout) (s : State) (page count : ℕ) (old : PageRecords) → HasItemAPage layout s →
    ArePagesOf layout s old → is_loading s page ≡ true → page < layout.pages →
    ArePagesOf layout
    (record s {
      resident = set s.resident page true;
      loading = set s.loading page None;
      last_used = set_last_used count (page ∷ []) s.last_used;
    })
    (with_record old page (record (record_at old.records page) {
      resident = true;
      loader = None;
      last_used = count;
      installed_at = count;
      load_ended_at = count;
    }))
ArePagesOf-installed layout s page count old lists are loading below =
    let r : PageRecord = record (record_at old.records page) {
      resident = true;
      loader = None;
      last_used = count;
      installed_at = count;
      load_ended_at = count;
    } in
    let t : State = record s {
      resident = set s.resident page true;
      loading = set s.loading page None;
      last_used = set_last_used count (page ∷ []) s.last_used;
    } in
    record {
      roots = are.roots;
      resident = map-set resident_of old.records page r ∙ ap (λ flags. set flags page true) are.resident;
      loading = map-set loader_number old.records page r ∙ ap (λ makers. set makers page None) are.loading;
      last_used = map-set used_of old.records page r ∙ ap (λ counts. set counts page count) are.last_used;
      dependents = λ p. field-kept (λ (x : PageRecord). x.dependents) old.records page r p refl
          ∙ (are.dependents p ∙ sym (dependents-same layout s t p (λ q. same q)));
    }
  where
    or-true : (b : Bool) → (b || true) ≡ true
    or-true true = refl
    or-true false = refl

    now : (flags : List Bool) (makers : List (Option ℕ)) → page < length flags →
        is_some (get_or makers page None) ≡ true →
        (get_or (set flags page true) page false || is_some (get_or (set makers page None) page None))
        ≡ (get_or flags page false || is_some (get_or makers page None))
    now flags makers lt is =
        ap (λ b. b || is_some (get_or (set makers page None) page None)) (get_or-set_same flags page true false lt)
        ∙ sym (ap (λ b. get_or flags page false || b) is ∙ or-true (get_or flags page false))

    same : (q : ℕ) → (get_or (set s.resident page true) q false || is_some (get_or (set s.loading page None) q None))
        ≡ (get_or s.resident q false || is_some (get_or s.loading q None))
    same q = ⊎_elim
        (λ here. rw here (now s.resident s.loading (omega (arith, below, lists.flag_a_page)) loading))
        (λ other. rw (
          get_or-set_other s.resident page q true false other,
          get_or-set_other s.loading page q None None
              other,
        ) refl)
        (cases_eq q page)

-- ---- pages are used

length-used : (count : ℕ) (pages counts : List ℕ) → length (set_last_used count pages counts) ≡ length counts
length-used count [] counts = refl
length-used count (page ∷ pages) counts = length-used count pages (set counts page count) ∙ length-set counts page count

used-there : (count : ℕ) (pages counts : List ℕ) (p : ℕ) → p < length counts →
    get_or (set_last_used count pages counts) p 0 ≡ cond (is_among pages p) count (get_or counts p 0)
used-there count [] counts p within = refl
used-there count (page ∷ pages) counts p within =
    let lt : p < length (set counts page count) = omega (arith, within, length-set counts page count) in
    used-there count pages (set counts page count) p lt
    ∙ ⊎_elim
    (λ here. here-used (is_among pages p) here)
    (λ other. ap (λ n. cond (is_among pages p) count n) (get_or-set_other counts page p count 0 (λ e. other (sym e)))
    ∙ ap (λ b. cond (b || is_among pages p) count (get_or counts p 0)) (sym (ne-eqb page p other)))
    (cases_eq page p)
  where
    both : (b : Bool) (v : ℕ) → v ≡ count → cond b count v ≡ count
    both true v e = refl
    both false v e = e

    here-used : (b : Bool) → page ≡ p → cond b count (get_or (set counts page count) p 0)
        ≡ cond ((page == p) || b) count (get_or counts p 0)
    here-used b here =
        both b (get_or (set counts page count) p 0)
        (ap (λ i. get_or (set counts i count) p 0) here ∙ get_or-set_same counts p count 0 within)
        ∙ sym (ap (λ c. cond (c || b) count (get_or counts p 0)) (eq-eqb page p here))

used-count : (b : Bool) (count : ℕ) (r : PageRecord) → (used_if b count r).last_used ≡ cond b count r.last_used
used-count true count r = refl
used-count false count r = refl

used-kept : {X : Type 0} (f : PageRecord → X) (b : Bool) (count : ℕ) (r : PageRecord) →
    ((q : PageRecord) → f (record q { last_used = count }) ≡ f q) → f (used_if b count r) ≡ f r
used-kept f true count r same = same r
used-kept f false count r same = refl

pub ArePagesOf-used : (layout : Layout) (s : State) (count : ℕ) (pages : List ℕ) (old new : PageRecords) →
    ArePagesOf layout s old → AreUsed count pages old new →
    ArePagesOf layout (record s { last_used = set_last_used count pages s.last_used }) new
ArePagesOf-used layout s count pages old new are used = record {
  roots = used.roots ∙ are.roots;
  resident = maps-kept resident_of old.records new.records used.len (kept resident_of (λ q. refl)) ∙ are.resident;
  loading = maps-kept loader_number old.records new.records used.len (kept loader_number (λ q. refl)) ∙ are.loading;
  last_used = ext_get_or 0 (map used_of new.records) (set_last_used count pages s.last_used)
      (lengths ∙ sym (length-used count pages s.last_used)) there;
  dependents = λ p. kept (λ (x : PageRecord). x.dependents) (λ q. refl) p ∙ are.dependents p;
}
  where
    kept : {X : Type 0} (f : PageRecord → X) → ((q : PageRecord) → f (record q { last_used = count }) ≡ f q) → (p : ℕ) →
        f (record_at new.records p) ≡ f (record_at old.records p)
    kept f same p = ap f (used.records p) ∙ used-kept f (is_among pages p) count (record_at old.records p) same

    lengths : length (map used_of new.records) ≡ length s.last_used
    lengths = length-map new.records used_of
        ∙ (used.len ∙ (sym (length-map old.records used_of) ∙ ap length are.last_used))

    there : (p : ℕ) → p < length (map used_of new.records) →
        get_or (map used_of new.records) p 0 ≡ get_or (set_last_used count pages s.last_used) p 0
    there p within =
        let lt : p < length s.last_used = omega (arith, within, lengths) in
        get_or-map used_of new.records p no_record
        ∙ (ap used_of (used.records p)
        ∙ (used-count (is_among pages p) count (record_at old.records p)
        ∙ (ap (λ n. cond (is_among pages p) count n)
        (sym (get_or-map used_of old.records p no_record) ∙ ap (λ counts. get_or counts p 0) are.last_used)
        ∙ sym (used-there count pages s.last_used p lt))))
