-- The records, the order of use and the count of held pages after no entry.
use Rattle.std.proofs.Common.{◌≡◌, ℕ, zero, suc, ◌+◌, ◌<◌, ◌≤◌, min, nat_lt, Bool, true, false, not, cond, ◌||◌, ◌&&◌}
use Rattle.std.proofs.Common.{refl, sym, ap, ◌∙◌, arith}
use Rattle.std.specs.List.{count_by}
use Rattle.std.proofs.lemmas.Bool.Decides.{nat_tests, Decides-ltb}
use Rattle.std.proofs.lemmas.List.FromFn.{get_or-map-range_with_len, length-map-range_with_len}
use Rattle.std.proofs.lemmas.List.FromFn.{sum_by-map-range_with_len_more}
use Rattle.pool_tables.specs.ListedPages.{no_pages}
use Rattle.pool_tables.specs.PageRecords.{no_record, record_at, is_record_held, opening_record, opening_records}
use Rattle.pool_tables.specs.declared.page_record.PageRecord.{PageRecord}
use Rattle.pool_tables.specs.Internal.UseOrder.{IsUseOrder}
use Rattle.pool_tables.proofs.UseOrder.{resident-below}

pub record-opening : (pages roots page : ℕ) → page < pages →
    record_at (opening_records pages roots).records page ≡ opening_record roots page
record-opening pages roots page below =
    get_or-map-range_with_len (opening_record roots) 0 pages page page no_record below (omega arith)

-- no page but the root pages is resident
listed-none : (pages roots page : ℕ) (resident : Bool) →
    (record_at (opening_records pages roots).records page).resident ≡ resident →
    false ≡ (resident && not (nat_lt page roots))
listed-none pages roots page false is = refl
listed-none pages roots page true is =
    let records = (opening_records pages roots).records in
    let below : page < pages =
    omega (arith, resident-below records page is, length-map-range_with_len (opening_record roots) 0 pages) in
    let root : nat_lt page roots ≡ true =
    sym (ap (λ (r : PageRecord). r.resident) (record-opening pages roots page below)) ∙ is in
    sym (ap not root)

pub IsUseOrder-opening : (pages roots : ℕ) → IsUseOrder roots (opening_records pages roots).records (no_pages pages)
IsUseOrder-opening pages roots = record {
  capacity = sym (length-map-range_with_len (opening_record roots) 0 pages);
  listed = λ page. listed-none pages roots page (record_at (opening_records pages roots).records page).resident refl;
  ordered = tt;
}

one-more : (n roots : ℕ) (b : Bool) → nat_lt n roots ≡ b → min n roots + cond (b || false) 1 0 ≡ min (suc n) roots
one-more n roots true e = let below : n < roots = (Decides-ltb n roots).0 e in omega (arith, below)
one-more n roots false e = let above : roots ≤ n = grind (arith, nat_tests) in omega (arith, above)

held-least : (n roots : ℕ) → count_by is_record_held (opening_records n roots).records ≡ min n roots
held-least zero roots = omega arith
held-least (suc n) roots =
    let e : suc n ≡ n + 1 = omega arith in
    let held = λ (m : ℕ). count_by is_record_held (opening_records m roots).records in
    ap held e ∙ (sum_by-map-range_with_len_more (λ r. cond (is_record_held r) 1 0) (opening_record roots) 0 n n
    (omega arith)
    ∙ (ap (λ m. m + cond (nat_lt n roots || false) 1 0) (held-least n roots) ∙ one-more n roots (nat_lt n roots) refl))

-- the root pages are held
pub held-opening : (pages roots : ℕ) → roots ≤ pages →
    roots ≡ count_by is_record_held (opening_records pages roots).records
held-opening pages roots fit = omega (arith, held-least pages roots, fit)
