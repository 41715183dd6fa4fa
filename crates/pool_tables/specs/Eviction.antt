-- Which of the pages that may be evicted is evicted first.
use Rattle.std.specs.Prelude.{◌≡◌, ◌≢◌, ◌==◌, ◌<◌, ◌&&◌, ◌⊎◌, ℕ, Bool, true, false, not, nat_lt, nat_le, List, Option}
use Rattle.std.specs.Prelude.{None, Some}
use Rattle.pool_rules.specs.Numbers.{is_among}
use Rattle.pool_tables.specs.PageRecords.{PageRecords, record_at}
use Rattle.pool_tables.specs.declared.page_record.PageRecord.{PageRecord}

-- whether a page that was installed at this count of entries was resident at the count of the snapshot
abbrev pub is_in_snapshot : Option ℕ → ℕ → Bool
is_in_snapshot None installed_at = false
is_in_snapshot (Some snapshot) installed_at = nat_le installed_at snapshot

-- whether no frame pins the page, explicitly or by the snapshot, and no page depends on it
abbrev pub is_free : Option ℕ → PageRecord → Bool
is_free snapshot r = (r.pins == 0) && ((r.dependents == 0) && not (is_in_snapshot snapshot r.installed_at))

-- whether a page in the order of use is free, and none of these uppers
abbrev pub is_candidate : List PageRecord → Option ℕ → List ℕ → ℕ → Bool
is_candidate records snapshot uppers page = is_free snapshot (record_at records page) && not (is_among uppers page)

-- whether the page may be evicted for one that has these uppers: it is resident, no root page, and a candidate
abbrev pub may_be_evicted : PageRecords → Option ℕ → List ℕ → ℕ → Bool
may_be_evicted table snapshot uppers page =
    (record_at table.records page).resident
    && (not (nat_lt page table.roots) && is_candidate table.records snapshot uppers page)

-- page p was used less recently than q, or as recently and has the greater number
abbrev pub ComesBefore : (ℕ → ℕ) → ℕ → ℕ → Type 0
ComesBefore last_used p q = (last_used p < last_used q) ⊎ ((last_used p ≡ last_used q) × (q < p))

-- the page passes, and comes before all others that pass; without a page none passes
abbrev pub IsFirst : (ℕ → ℕ) → (ℕ → Bool) → Option ℕ → Type 0
IsFirst last_used test None = (q : ℕ) → test q ≡ false
IsFirst last_used test (Some page) =
    (test page ≡ true) × ((q : ℕ) → test q ≡ true → q ≢ page → ComesBefore last_used page q)
