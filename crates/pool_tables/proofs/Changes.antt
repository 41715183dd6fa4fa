-- One page more is used, or has a dependent more or less: the steps of loops over pages.
use Rattle.std.proofs.Common.{◌≡◌, ◌≢◌, ℕ, suc, ◌+◌, ◌-◌, ◌<◌, ◌≤◌, ◌==◌, List, ◌∷◌, Bool, true, false, cond, inl, inr}
use Rattle.std.proofs.Common.{⊎_elim, get_or, set, length, take, drop, refl, sym, ap, ◌∙◌, subst, arith, eq-eqb}
use Rattle.std.proofs.Common.{length-set}
use Rattle.std.proofs.Math.Seq.{drop-cons}
use Rattle.std.proofs.lemmas.Bool.{cases_eq}
use Rattle.std.proofs.lemmas.List.Sums.{count_by_more_yes, count_by_more_no, sum_by-take-le}
use Rattle.journal.specs.Layout.{ascends}
use Rattle.pool_rules.specs.Numbers.{is_among}
use Rattle.pool_tables.specs.PageRecords.{PageRecords, record_at, with_record, IsUsedBefore}
use Rattle.pool_tables.specs.declared.page_record.PageRecord.{PageRecord}
use Rattle.pool_tables.specs.Changes.{used_if, AreUsed, times, AreChanged, more_dependents, fewer_dependents}
use Rattle.pool_tables.specs.Changes.{HaveMoreDependents, HaveFewerDependents}
use Rattle.pool_tables.proofs.Apart.{ne-eqb}
use Rattle.pool_tables.proofs.AscendingNumbers.{after-place}
use Rattle.pool_tables.proofs.UseOrder.{record-same, record-other}

-- ---- pages that are used

-- used before the page, if it was used with it as a greater page
used-before : (b : Bool) (count page p : ℕ) (r : PageRecord) → r.last_used < count → (b ≡ true → page < p) →
    IsUsedBefore count page p (used_if b count r).last_used
used-before true count page p r less greater = inr (refl, greater refl)
used-before false count page p r less greater = inl less

-- the pages from place k on are that one and those after it
from-place : (pages : List ℕ) (k : ℕ) → k < length pages → drop k pages ≡ get_or pages k 0 ∷ drop (k + 1) pages
from-place pages k within = let e : suc k ≡ k + 1 = omega arith in drop-cons pages k 0 within
    ∙ ap (λ m. get_or pages k 0 ∷ drop m pages) e

-- all others were used before it, or with it and are greater
pub before-step : (count k page : ℕ) (pages : List ℕ) (old now : PageRecords) → k < length pages →
    page ≡ get_or pages k 0 → ascends pages ≡ true → ((p : ℕ) → (record_at old.records p).last_used < count) →
    AreUsed count (drop (k + 1) pages) old now → (p : ℕ) → IsUsedBefore count page p (record_at now.records p).last_used
before-step count k page pages old now within is up later used p =
    let greater : is_among (drop (k + 1) pages) p ≡ true →
    page < p = λ among. subst (λ q. q < p) (sym is) (after-place 0 pages k p up within among) in
    subst (λ (x : PageRecord). IsUsedBefore count page p x.last_used) (sym (used.records p))
    (used-before (is_among (drop (k + 1) pages) p) count page p (record_at old.records p) (later p) greater)

-- ---- records that are changed for each time that their page is among some

-- the page at a place is once more among those up to it
times-here : (numbers : List ℕ) (i number : ℕ) → i < length numbers → number ≡ get_or numbers i 0 →
    times (take (i + 1) numbers) number ≡ times (take i numbers) number + 1
times-here numbers i number within is = count_by_more_yes (λ n. n == number) numbers i 0 within
    (eq-eqb (get_or numbers i 0) number (sym is))

times-other : (numbers : List ℕ) (i number : ℕ) → i < length numbers → number ≢ get_or numbers i 0 →
    times (take (i + 1) numbers) number ≡ times (take i numbers) number
times-other numbers i number within other =
    count_by_more_no (λ n. n == number) numbers i 0 within (ne-eqb (get_or numbers i 0) number (λ e. other (sym e)))

-- the page at a place is among all numbers more often than among those before it
pub times-ahead : (numbers : List ℕ) (i number : ℕ) → i < length numbers → number ≡ get_or numbers i 0 →
    times (take i numbers) number + 1 ≤ times numbers number
times-ahead numbers i number within is =
    omega (arith, times-here numbers i number within is, sum_by-take-le (λ n. cond (n == number) 1 0) numbers (i + 1))

-- the page at place i is changed once more
AreChanged-step : (change : ℕ → PageRecord → PageRecord) (i page : ℕ) (pages : List ℕ) (old now : PageRecords)
    (r : PageRecord) → i < length pages → page ≡ get_or pages i 0 → page < length now.records →
    ((k : ℕ) → record_at now.records page ≡ change k (record_at old.records page) →
    r ≡ change (k + 1) (record_at old.records page)) →
    AreChanged change (take i pages) old now → AreChanged change (take (i + 1) pages) old (with_record now page r)
AreChanged-step change i page pages old now r within is below again changed = record {
  roots = changed.roots;
  len = length-set now.records page r ∙ changed.len;
  records = λ p. ⊎_elim
      (λ same. subst (λ q. record_at (set now.records page r) q
      ≡ change (times (take (i + 1) pages) q) (record_at old.records q)) (sym same)
      (record-same now.records page r below
      ∙ (again (times (take i pages) page) (changed.records page)
      ∙ ap (λ k. change k (record_at old.records page)) (sym (times-here pages i page within is)))))
      (λ other. record-other now.records page p r other
      ∙ (changed.records p
      ∙ ap (λ k. change k (record_at old.records p))
      (sym (times-other pages i p within (λ e. other (e ∙ sym is))))))
      (cases_eq p page);
}

once-more : (a k : ℕ) → a + k + 1 ≡ a + (k + 1)
once-more a k = omega arith

once-fewer : (a k : ℕ) → a - k - 1 ≡ a - (k + 1)
once-fewer a k = omega arith

pub HaveMoreDependents-step : (i page : ℕ) (uppers : List ℕ) (old now : PageRecords) → i < length uppers →
    page ≡ get_or uppers i 0 → page < length now.records → HaveMoreDependents (take i uppers) old now →
    HaveMoreDependents (take (i + 1) uppers) old
    (with_record now page (more_dependents 1 (record_at now.records page)))
HaveMoreDependents-step i page uppers old now within is below more =
    let o = record_at old.records page in
    AreChanged-step more_dependents i page uppers old now (more_dependents 1 (record_at now.records page)) within is
    below (λ k e. ap (more_dependents 1) e ∙ ap (λ n. record o { dependents = n }) (once-more o.dependents k)) more

pub HaveFewerDependents-step : (i page : ℕ) (uppers : List ℕ) (old now : PageRecords) → i < length uppers →
    page ≡ get_or uppers i 0 → page < length now.records → HaveFewerDependents (take i uppers) old now →
    HaveFewerDependents (take (i + 1) uppers) old
    (with_record now page (fewer_dependents 1 (record_at now.records page)))
HaveFewerDependents-step i page uppers old now within is below fewer =
    let o = record_at old.records page in
    AreChanged-step fewer_dependents i page uppers old now (fewer_dependents 1 (record_at now.records page)) within is
    below (λ k e. ap (fewer_dependents 1) e ∙ ap (λ n. record o { dependents = n }) (once-fewer o.dependents k)) fewer

-- ---- what the records count after such changes

pub more-dependents : (uppers : List ℕ) (old new : PageRecords) → HaveMoreDependents uppers old new → (page : ℕ) →
    (record_at new.records page).dependents ≡ (record_at old.records page).dependents + times uppers page
more-dependents uppers old new more page = ap (λ (x : PageRecord). x.dependents) (more.records page)

pub fewer-dependents : (uppers : List ℕ) (old new : PageRecords) → HaveFewerDependents uppers old new → (page : ℕ) →
    (record_at new.records page).dependents ≡ (record_at old.records page).dependents - times uppers page
fewer-dependents uppers old new fewer page = ap (λ (x : PageRecord). x.dependents) (fewer.records page)
