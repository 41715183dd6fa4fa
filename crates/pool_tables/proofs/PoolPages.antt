-- The records of the pages agree with the state of the pool after no entry, and after each change of one entry.
use Rattle.std.proofs.Common.{◌≡◌, ◌≢◌, ℕ, ◌+◌, ◌-◌, ◌<◌, ◌≤◌, List, Bool, true, false, ◌&&◌, Option, Some, None}
use Rattle.std.proofs.Common.{is_some, get_or, set, length, map, refl, sym, ap, ◌∙◌, arith}
use Rattle.std.specs.Option.{option_map}
use Rattle.std.proofs.Math.ListN.{get_or-map}
use Rattle.std.proofs.Math.Seq.{map-set_same}
use Rattle.std.proofs.lemmas.List.{ext_get_or, length-map}
use Rattle.journal.specs.declared.layouts.Layout.{Layout}
use Rattle.journal.specs.Layout.{InBounds, uppers_of, is_upper}
use Rattle.pool_rules.specs.State.{State, is_resident, is_loading, is_held}
use Rattle.pool_rules.specs.Victim.{last_used_of}
use Rattle.pool_tables.specs.Changes.{times}
use Rattle.pool_tables.specs.PageRecords.{PageRecords, no_record, record_at, with_record}
use Rattle.pool_tables.specs.PoolPages.{dependent_count, loader_number, ArePagesOf}
use Rattle.pool_tables.specs.declared.page_record.MakerId.{MakerId}
use Rattle.pool_tables.specs.declared.page_record.PageRecord.{PageRecord}
use Rattle.pool_tables.proofs.PageCounts.{one, count-same, count-changed, times-ascending}

-- ---- one field of all records

abbrev pub resident_of : PageRecord → Bool
resident_of r = r.resident

abbrev pub used_of : PageRecord → ℕ
used_of r = r.last_used

-- a field that each record keeps
pub maps-kept : {X : Type 0} (f : PageRecord → X) (old new : List PageRecord) → length new ≡ length old →
    ((page : ℕ) → f (record_at new page) ≡ f (record_at old page)) → map f new ≡ map f old
maps-kept f old new len same =
    ext_get_or (f no_record) (map f new) (map f old) (length-map new f ∙ (len ∙ sym (length-map old f)))
    (λ page within. get_or-map f new page no_record ∙ (same page ∙ sym (get_or-map f old page no_record)))

-- a field that the record of one page keeps
pub field-kept : {X : Type 0} (f : PageRecord → X) (records : List PageRecord) (page : ℕ) (r : PageRecord) (p : ℕ) →
    f r ≡ f (record_at records page) → f (record_at (set records page r) p) ≡ f (record_at records p)
field-kept f records page r p same =
    sym (get_or-map f (set records page r) p no_record)
    ∙ (ap (λ values. get_or values p (f no_record)) (map-set_same f records page r no_record same)
    ∙ get_or-map f records p no_record)

-- ---- what the records say of one page

pub resident-at : (layout : Layout) (s : State) (table : PageRecords) → ArePagesOf layout s table → (page : ℕ) →
    (record_at table.records page).resident ≡ is_resident s page
resident-at layout s table are page =
    sym (get_or-map resident_of table.records page no_record) ∙ ap (λ flags. get_or flags page false) are.resident

pub loader-at : (layout : Layout) (s : State) (table : PageRecords) → ArePagesOf layout s table → (page : ℕ) →
    loader_number (record_at table.records page) ≡ get_or s.loading page None
loader-at layout s table are page =
    sym (get_or-map loader_number table.records page no_record) ∙ ap (λ makers. get_or makers page None) are.loading

pub last_used-at : (layout : Layout) (s : State) (table : PageRecords) → ArePagesOf layout s table → (page : ℕ) →
    (record_at table.records page).last_used ≡ last_used_of s page
last_used-at layout s table are page =
    sym (get_or-map used_of table.records page no_record) ∙ ap (λ counts. get_or counts page 0) are.last_used

pub is_some-mapped : (loader : Option MakerId) → is_some loader ≡ is_some (option_map (λ (m : MakerId). m.0) loader)
is_some-mapped None = refl
is_some-mapped (Some maker) = refl

pub loading-at : (layout : Layout) (s : State) (table : PageRecords) → ArePagesOf layout s table → (page : ℕ) →
    is_some (record_at table.records page).loader ≡ is_loading s page
loading-at layout s table are page =
    is_some-mapped (record_at table.records page).loader ∙ ap is_some (loader-at layout s table are page)

-- ---- how many depend on a page

-- once another page is held, or is no longer
pub dependents-changed : (layout : Layout) (s t : State) (page p : ℕ) → layout.roots ≤ page → page < layout.pages →
    ((q : ℕ) → q ≢ page → is_held t q ≡ is_held s q) →
    dependent_count layout t p + one (is_held s page && is_upper layout p page)
    ≡ dependent_count layout s p + one (is_held t page && is_upper layout p page)
dependents-changed layout s t page p no_root below others =
    count-changed (λ q. is_held s q && is_upper layout p q) (λ q. is_held t q && is_upper layout p q) layout.roots
    (layout.pages - layout.roots) page no_root (omega (arith, no_root, below))
    (λ q other. ap (λ held. held && is_upper layout p q) (others q other))

-- the page's uppers ascend, so each is once among them
pub times-upper : (layout : Layout) (page p : ℕ) → InBounds layout → page < layout.pages →
    times (uppers_of layout page) p ≡ one (is_upper layout p page)
times-upper layout page p bounds below =
    times-ascending 0 (uppers_of layout page) p (bounds.uppers page (omega (arith, below, bounds.list_a_page))).0

pub dependents-added : (layout : Layout) (s t : State) (page p : ℕ) → InBounds layout → layout.roots ≤ page →
    page < layout.pages → ((q : ℕ) → q ≢ page → is_held t q ≡ is_held s q) → is_held s page ≡ false →
    is_held t page ≡ true → dependent_count layout t p ≡ dependent_count layout s p + times (uppers_of layout page) p
dependents-added layout s t page p bounds no_root below others absent held =
    let before : one (is_held s page && is_upper layout p page) ≡ 0 =
    ap (λ b. one (b && is_upper layout p page)) absent in
    let after : one (is_held t page && is_upper layout p page) ≡ one (is_upper layout p page) =
    ap (λ b. one (b && is_upper layout p page)) held in
    omega (
      arith,
      dependents-changed layout s t page p no_root below others,
      before,
      after,
      times-upper layout page p
          bounds below,
    )

pub dependents-removed : (layout : Layout) (s t : State) (page p : ℕ) → InBounds layout → layout.roots ≤ page →
    page < layout.pages → ((q : ℕ) → q ≢ page → is_held t q ≡ is_held s q) → is_held s page ≡ true →
    is_held t page ≡ false → dependent_count layout s p - times (uppers_of layout page) p ≡ dependent_count layout t p
dependents-removed layout s t page p bounds no_root below others held absent =
    let before : one (is_held s page && is_upper layout p page) ≡ one (is_upper layout p page) =
    ap (λ b. one (b && is_upper layout p page)) held in
    let after : one (is_held t page && is_upper layout p page) ≡ 0 =
    ap (λ b. one (b && is_upper layout p page)) absent in
    omega (
      arith,
      dependents-changed layout s t page p no_root below others,
      before,
      after,
      times-upper layout page p
          bounds below,
    )

pub dependents-same : (layout : Layout) (s t : State) (p : ℕ) → ((q : ℕ) → is_held t q ≡ is_held s q) →
    dependent_count layout t p ≡ dependent_count layout s p
dependents-same layout s t p same =
    count-same (λ q. is_held s q && is_upper layout p q) (λ q. is_held t q && is_upper layout p q) layout.roots
    (layout.pages - layout.roots) (λ q le. ap (λ held. held && is_upper layout p q) (same q))

-- ---- one record is replaced

-- by one that is as resident, as loading, as used, and has as many dependents
pub ArePagesOf-kept : (layout : Layout) (s : State) (page : ℕ) (r : PageRecord) (old : PageRecords) →
    ArePagesOf layout s old → r.resident ≡ (record_at old.records page).resident →
    r.loader ≡ (record_at old.records page).loader → r.last_used ≡ (record_at old.records page).last_used →
    r.dependents ≡ (record_at old.records page).dependents → ArePagesOf layout s (with_record old page r)
ArePagesOf-kept layout s page r old are resident loader last_used dependents = record {
  roots = are.roots;
  resident = map-set_same resident_of old.records page r no_record resident ∙ are.resident;
  loading = map-set_same loader_number old.records page r no_record (ap (option_map (λ (m : MakerId). m.0)) loader)
      ∙ are.loading;
  last_used = map-set_same used_of old.records page r no_record last_used ∙ are.last_used;
  dependents = λ p. field-kept (λ r. r.dependents) old.records page r p dependents ∙ are.dependents p;
}
