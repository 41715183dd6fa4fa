-- What the changes of the table leave of one field of the records, as of the counts at installs and ends of loads.
use Rattle.std.proofs.Common.{◌≡◌, ◌≢◌, ℕ, ◌<◌, List, Bool, true, false, length, refl, ap, ◌∙◌}
use Rattle.pool_rules.specs.Numbers.{is_among}
use Rattle.pool_tables.specs.Changes.{times, used_if, AreChanged, AreUsed}
use Rattle.pool_tables.specs.PageRecords.{PageRecords, record_at, with_record}
use Rattle.pool_tables.specs.declared.page_record.PageRecord.{PageRecord}
use Rattle.pool_tables.proofs.UseOrder.{record-same, record-other}

-- pins and dependents
pub changed-field : {X : Type 0} (f : PageRecord → X) (change : ℕ → PageRecord → PageRecord) (pages : List ℕ)
    (old new : PageRecords) → ((k : ℕ) (r : PageRecord) → f (change k r) ≡ f r) → AreChanged change pages old new →
    (page : ℕ) → f (record_at new.records page) ≡ f (record_at old.records page)
changed-field f change pages old new keeps changed page =
    ap f (changed.records page) ∙ keeps (times pages page) (record_at old.records page)

-- uses
pub used-field : {X : Type 0} (f : PageRecord → X) (count : ℕ) (pages : List ℕ) (old new : PageRecords) →
    ((r : PageRecord) → f (record r { last_used = count }) ≡ f r) → AreUsed count pages old new → (page : ℕ) →
    f (record_at new.records page) ≡ f (record_at old.records page)
used-field f count pages old new keeps used page =
    ap f (used.records page) ∙ kept (is_among pages page) (record_at old.records page)
  where
    kept : (b : Bool) (r : PageRecord) → f (used_if b count r) ≡ f r
    kept true r = keeps r
    kept false r = refl

-- a record that is replaced
pub replaced-own : {X : Type 0} (f : PageRecord → X) (table : PageRecords) (page : ℕ) (r : PageRecord) →
    page < length table.records → f (record_at (with_record table page r).records page) ≡ f r
replaced-own f table page r below = ap f (record-same table.records page r below)

pub replaced-other : {X : Type 0} (f : PageRecord → X) (table : PageRecords) (page q : ℕ) (r : PageRecord) →
    q ≢ page → f (record_at (with_record table page r).records q) ≡ f (record_at table.records q)
replaced-other f table page q r other = ap f (record-other table.records page q r other)
